-- What is said of a text, from what was written of it.
use Rattle.std.proofs.Common.{◌≡◌, ℕ, Bool, true, false, List, [], Option, Result, Ok, Err, OnOk, OnErr, IfOk, IfErr, IsErrAnd, refl, sym, ap, subst, inl, inr}
use Rattle.std.specs.Io.KnownBytes.{Appends}
use Rattle.std.proofs.KnownBytes.{Appends-nil, Keeps-refl}
use Rattle.svr_edge.specs.Known.{AppendsFront}
use Rattle.svr_token.specs.declared.token.Token.{Token}
use Rattle.svr_token.specs.Tokens.{IsTokenized}
use Rattle.svr_token.specs.Names.{name_at}
use Rattle.svr_refusal.specs.declared.refusal.Refusal.{Refusal}
use Rattle.svr_refusal.specs.Numbers.{number_of}
use Rattle.svr_refusal.specs.Place.{place_of, token_start}
use Rattle.svr_seq.specs.SeqTerm.{SeqTerm}
use Rattle.svr_seq_made.specs.declared.fault.SeqFault.TheVariants as e
use Rattle.svr_seq_made.specs.Reading as reading
use Rattle.svr_seq_lines.specs.declared.end.End.{End}
use Rattle.svr_seq_lines.specs.declared.end.End.TheVariants as end
use Rattle.svr_seq_lines.specs.declared.end.Stop.{Stop}
use Rattle.svr_seq_lines.specs.declared.end.Stop.TheVariants.{NoMemory, WriteFault}
use Rattle.svr_seq_lines.specs.Lines.{SequenceTerm, lines_from, some_long}
use Rattle.svr_seq_lines.specs.Said.{IsRefused, by_token, by_meaning, HasSeq, HasLines, Tells, IsCause, Stops}
use Rattle.svr_seq_lines.specs.Sequence.{EndsSo, Refuses}

-- ---- what a result says

pub on_ok : {T E : Type 0} (r : Result T E) (Q : Type 0) → Q → OnOk r Q
on_ok (Ok x) Q q = q
on_ok (Err y) Q q = tt

pub on_err : {T E : Type 0} (r : Result T E) (Q : Type 0) → Q → OnErr r Q
on_err (Ok x) Q q = tt
on_err (Err y) Q q = q

pub failed_as : {T E : Type 0} (r : Result T E) (P Q : E → Type 0) → IsErrAnd r P → ((y : E) → P y → Q y) → IfErr r Q
failed_as (Ok x) P Q h f = absurd h
failed_as (Err y) P Q h f = f y h

pub same_cause : (why cause : Stop) (m n : ℕ) → why ≡ cause → IsCause cause m n → IsCause why m n
same_cause why cause m n is h = subst (λ (w : Stop). IsCause w m n) (sym is) h

-- ---- lines

module _ (text : List ℕ) (tokens : List Token) (seq : SeqTerm) (seed count : ℕ) (read : HasSeq text tokens seq) where
  abbrev pub made_of : SequenceTerm
  made_of = record { name = name_at text tokens; seq = seq; seed = seed }

  has_lines : (limited : Bool) → some_long made_of 1 count ≡ limited → HasLines text seed count limited (lines_from made_of 1 count)
  has_lines limited ended = record { tokens = tokens; seq = seq; read = read; ended = ended; lines = refl }

  -- all of them were written
  pub lines_told : (r : Result End Stop) (a b : Option (List ℕ)) → IfOk r (λ said. EndsSo said (some_long made_of 1 count)) → OnOk r (Appends a b (lines_from made_of 1 count)) → IfOk r (λ said. Tells text seed count said a b)
  lines_told (Ok end.Whole) a b so written = (lines_from made_of 1 count, has_lines false so, written)
  lines_told (Ok end.Limited) a b so written = (lines_from made_of 1 count, has_lines true so, written)
  lines_told (Ok (end.Refused number place)) a b so written = absurd so
  lines_told (Err why) a b so written = tt

  -- a front of them was written
  pub lines_stopped : (r : Result End Stop) (a b : Option (List ℕ)) (m n : ℕ) → OnErr r (AppendsFront a b (lines_from made_of 1 count)) → IfErr r (λ why. IsCause why m n) → IfErr r (λ why. Stops text seed count why a m b n)
  lines_stopped (Ok said) a b m n front cause = tt
  lines_stopped (Err NoMemory) a b m n front cause = inr (some_long made_of 1 count, lines_from made_of 1 count, has_lines (some_long made_of 1 count) refl, front)
  lines_stopped (Err WriteFault) a b m n front cause = ((some_long made_of 1 count, lines_from made_of 1 count, has_lines (some_long made_of 1 count) refl, front), cause)

-- ---- refusals

pub token_refused : (text : List ℕ) (tokens : List Token) (why : Refusal) (n : ℕ) → IsTokenized text tokens → reading.IsRefused text tokens (e.Refused why n) → IsRefused text (number_of why) (place_of text (token_start text tokens n))
token_refused text tokens why n tokenized (inl (is, stop)) = by_token tokens n tokenized stop (ap number_of is) refl
token_refused text tokens why n tokenized (inr first) = by_meaning tokens why n tokenized first refl refl

pub refusal_told : (text : List ℕ) (seed count : ℕ) (r : Result End Stop) (a : Option (List ℕ)) → IfOk r (λ said. Refuses text said) → IfOk r (λ said. Tells text seed count said a a)
refusal_told text seed count (Ok end.Whole) a h = absurd h
refusal_told text seed count (Ok end.Limited) a h = absurd h
refusal_told text seed count (Ok (end.Refused number place)) a h = ([], (h, refl), Appends-nil a)
refusal_told text seed count (Err why) a h = tt

-- nothing was written for want of memory
pub nothing_told : (text : List ℕ) (seed count : ℕ) (r : Result End Stop) (a : Option (List ℕ)) (m : ℕ) → IfErr r (λ why. why ≡ NoMemory) → IfErr r (λ why. Stops text seed count why a m a m)
nothing_told text seed count (Ok said) a m h = tt
nothing_told text seed count (Err why) a m h = subst (λ (w : Stop). Stops text seed count w a m a m) (sym h) (inl (Keeps-refl a))

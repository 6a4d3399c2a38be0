-- What is read and made, as it is told
use Rattle.std.proofs.Common.{◌≡◌, ℕ, List, [], refl, sym, ap, ◌∙◌, inl, inr, subst, Result, Ok, Err, IfOk}
use Rattle.std.specs.Prelude.{IfErr, MatchResult}
use Rattle.svr_seq.specs.declared.tree.Seq.{Seq}
use Rattle.svr_seq.specs.SeqTerm.{SeqTerm, seq_term}
use Rattle.svr_seq.specs.Sound.{IsSound}
use Rattle.svr_token.specs.declared.token.Token.{Token}
use Rattle.svr_token.specs.Names.{name_at}
use Rattle.svr_seq_text.specs.declared.text.SeqText.{SeqText}
use Rattle.svr_seq_text.specs.declared.fault.SeqTextFault.{SeqTextFault}
use Rattle.svr_seq_text.specs.declared.fault.SeqTextFault.TheVariants as t
use Rattle.svr_seq_text.specs.Tokens.{WriteText, HaveFault}
use Rattle.svr_seq_made.specs.declared.fault.SeqFault.{SeqFault}
use Rattle.svr_seq_made.specs.declared.fault.SeqFault.TheVariants as e
use Rattle.svr_seq_made.specs.Refusals.{refusals, first_of, IsFirst}
use Rattle.svr_seq_made.specs.Making.{seq_made}
use Rattle.svr_seq_made.proofs.Lawful.{seq-sound}
use Rattle.svr_seq_made.specs.Reading.{IsSeqOf, IsRefused, refusal_of}

-- what `make` answers
abbrev pub IsMade : (ℕ → List ℕ) → SeqText → Result Seq SeqFault → Type 0
IsMade names found r = MatchResult r (λ s. (refusals names found ≡ []) × (seq_term s ≡ seq_made names found)) (λ x. IsFirst x (refusals names found))

pub told-made : (text : List ℕ) (tokens : List Token) (found : SeqText) (r : Result Seq SeqFault) → WriteText text tokens found → IsMade (name_at text tokens) found r
    → IfOk r (λ s. IsSeqOf text tokens (seq_term s))
told-made text tokens found (Ok s) h m =
    let k = h.2 in
    record {
      tree = k.0;
      written = (h.0, h.1, k.1);
      fine = ap (refusals (name_at text tokens)) k.2 ∙ m.0;
      made = ap (seq_made (name_at text tokens)) k.2 ∙ sym m.1;
    }
told-made text tokens found (Err x) h m = tt

pub told-sound : (text : List ℕ) (tokens : List Token) (found : SeqText) (r : Result Seq SeqFault) → WriteText text tokens found → IsMade (name_at text tokens) found r → IfOk r (λ s. IsSound (seq_term s))
told-sound text tokens found (Ok s) h m =
    let k = h.2 in
    subst (λ (z : SeqTerm). IsSound z) (ap (seq_made (name_at text tokens)) k.2 ∙ sym m.1) (seq-sound (name_at text tokens) k.0 (ap (refusals (name_at text tokens)) k.2 ∙ m.0))
told-sound text tokens found (Err x) h m = tt

pub told-refused : (text : List ℕ) (tokens : List Token) (found : SeqText) (r : Result Seq SeqFault) → WriteText text tokens found → IsMade (name_at text tokens) found r
    → IfErr r (λ x. IsRefused text tokens x)
told-refused text tokens found (Ok s) h m = tt
told-refused text tokens found (Err (e.Refused n at)) h m =
    let k = h.2 in
    inr (record { tree = k.0; written = (h.0, h.1, k.1); first = ap (λ z. first_of (refusals (name_at text tokens) z)) k.2 ∙ m })
told-refused text tokens found (Err e.NoMemory) h m = tt

pub told-fault : (text : List ℕ) (tokens : List Token) (x : SeqTextFault) (y : SeqFault) → y ≡ refusal_of x → HaveFault text tokens x → IsRefused text tokens y
told-fault text tokens (t.Unexpected n) y h k = subst (λ z. IsRefused text tokens z) (sym h) (inl (refl, k))
told-fault text tokens t.NoMemory y h k = subst (λ z. IsRefused text tokens z) (sym h) tt

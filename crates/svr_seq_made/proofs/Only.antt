-- Tokens have one answer
use Rattle.std.proofs.Common.{◌≡◌, ℕ, List, [], None, Some, refl, sym, ap, ◌∙◌, ◌⊎◌, inl, inr, Result, Ok, Err}
use Rattle.std.specs.Prelude.{MatchResult}
use Rattle.svr_refusal.specs.declared.refusal.Refusal.{Refusal}
use Rattle.svr_seq.specs.declared.tree.Seq.{Seq}
use Rattle.svr_seq.specs.SeqTerm.{SeqTerm, seq_term}
use Rattle.svr_token.specs.declared.token.Token.{Token}
use Rattle.svr_token.specs.Names.{name_at}
use Rattle.svr_seq_text.specs.declared.text.SeqText.{SeqText}
use Rattle.svr_seq_text.specs.declared.fault.SeqTextFault.{SeqTextFault}
use Rattle.svr_seq_text.specs.declared.fault.SeqTextFault.TheVariants as t
use Rattle.svr_seq_text.specs.Tree.{text_of}
use Rattle.svr_seq_text.specs.Tokens.{AnswersTrees, AnswersStops}
use Rattle.svr_seq_made.specs.declared.fault.SeqFault.{SeqFault}
use Rattle.svr_seq_made.specs.declared.fault.SeqFault.TheVariants as e
use Rattle.svr_seq_made.specs.Refusals.{refusals, first_of}
use Rattle.svr_seq_made.specs.Making.{seq_made}
use Rattle.svr_seq_made.specs.Reading.{IsSeqOf, IsRefused, refusal_of}
use Rattle.svr_seq_made.proofs.Told.{IsMade}

abbrev pub OnlySeq : SeqTerm → Result Seq SeqFault → Type 0
OnlySeq s r = MatchResult r (λ x. seq_term x ≡ s) (λ x. x ≡ e.NoMemory)

abbrev pub OnlyRefusal : Refusal → ℕ → Result Seq SeqFault → Type 0
OnlyRefusal n at r = MatchResult r (λ x. ⊥) (λ x. (x ≡ e.Refused n at) ⊎ (x ≡ e.NoMemory))

nothing_first : (rs : List SeqFault) (x : SeqFault) → rs ≡ [] → first_of rs ≡ Some x → ⊥
nothing_first rs x h k = let z : None ≡ Some x = sym (ap first_of h) ∙ k in cc

-- where a text was found
pub found-only-seq : (text : List ℕ) (tokens : List Token) (found : SeqText) (r : Result Seq SeqFault) → AnswersTrees text tokens (Ok found) → IsMade (name_at text tokens) found r
    → (s : SeqTerm) → IsSeqOf text tokens s → OnlySeq s r
found-only-seq text tokens found (Ok x) h m s k =
    let same : found ≡ text_of k.tree = h k.written.0 k.written.1 k.tree k.written.2 in
    m.1 ∙ ap (seq_made (name_at text tokens)) same ∙ k.made
found-only-seq text tokens found (Err (e.Refused n at)) h m s k =
    let same : found ≡ text_of k.tree = h k.written.0 k.written.1 k.tree k.written.2 in
    absurd (nothing_first (refusals (name_at text tokens) found) (e.Refused n at) (ap (refusals (name_at text tokens)) same ∙ k.fine) m)
found-only-seq text tokens found (Err e.NoMemory) h m s k = refl

refused-only : (text : List ℕ) (tokens : List Token) (found : SeqText) (r : Result Seq SeqFault) (n : Refusal) (at : ℕ) → IsMade (name_at text tokens) found r
    → first_of (refusals (name_at text tokens) found) ≡ Some (e.Refused n at) → OnlyRefusal n at r
refused-only text tokens found (Ok x) n at m k = nothing_first (refusals (name_at text tokens) found) (e.Refused n at) m.0 k
refused-only text tokens found (Err (e.Refused i j)) n at m k =
    inl (let z : Some (e.Refused i j) ≡ Some (e.Refused n at) = sym m ∙ k in let same : e.Refused i j ≡ e.Refused n at = cc in same)
refused-only text tokens found (Err e.NoMemory) n at m k = inr refl

pub found-only-refusal : (text : List ℕ) (tokens : List Token) (found : SeqText) (r : Result Seq SeqFault) → AnswersTrees text tokens (Ok found) → AnswersStops text tokens (Ok found) → IsMade (name_at text tokens) found r
    → (n : Refusal) (at : ℕ) → IsRefused text tokens (e.Refused n at) → OnlyRefusal n at r
found-only-refusal text tokens found r h g m n at (inl k) = absurd (g k.1.0 k.1.1 at k.1.2)
found-only-refusal text tokens found r h g m n at (inr k) =
    let same : found ≡ text_of k.tree = h k.written.0 k.written.1 k.tree k.written.2 in
    refused-only text tokens found r n at m (ap (λ z. first_of (refusals (name_at text tokens) z)) same ∙ k.first)

-- where none was found
pub fault-only-seq : (text : List ℕ) (tokens : List Token) (x : SeqTextFault) (y : SeqFault) → y ≡ refusal_of x → AnswersTrees text tokens (Err x) → (s : SeqTerm) → IsSeqOf text tokens s → y ≡ e.NoMemory
fault-only-seq text tokens x y q h s k =
    let same : x ≡ t.NoMemory = h k.written.0 k.written.1 k.tree k.written.2 in
    q ∙ ap refusal_of same

pub fault-only-refusal : (text : List ℕ) (tokens : List Token) (x : SeqTextFault) (y : SeqFault) → y ≡ refusal_of x → AnswersTrees text tokens (Err x) → AnswersStops text tokens (Err x)
    → (n : Refusal) (at : ℕ) → IsRefused text tokens (e.Refused n at) → (y ≡ e.Refused n at) ⊎ (y ≡ e.NoMemory)
fault-only-refusal text tokens x y q h g n at (inl k) = go (g k.1.0 k.1.1 at k.1.2)
  where
    go : (x ≡ t.Unexpected at) ⊎ (x ≡ t.NoMemory) → (y ≡ e.Refused n at) ⊎ (y ≡ e.NoMemory)
    go (inl same) = inl (q ∙ ap refusal_of same ∙ ap (λ z. e.Refused z at) (sym k.0))
    go (inr same) = inr (q ∙ ap refusal_of same)
fault-only-refusal text tokens x y q h g n at (inr k) =
    let same : x ≡ t.NoMemory = h k.written.0 k.written.1 k.tree k.written.2 in
    inr (q ∙ ap refusal_of same)

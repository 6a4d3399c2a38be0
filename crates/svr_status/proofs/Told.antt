-- What a source told, and how far it was read.
use Rattle.std.proofs.Common.{◌≡◌, ◌≤◌, ◌<◌, ◌⊎◌, ℕ, ◌+◌, List, [], ◌++◌, length, Option, Some, None, IfSome, refl, sym, ap, ◌∙◌, subst, inl, inr, arith, append-nil, length-append}
use Rattle.std.specs.Io.KnownBytes.{Consumes, IsAtEnd}
use Rattle.std.proofs.KnownBytes.{Consumes-nil}
use Rattle.svr_edge.specs.Known.{Takes, TakesUpTo}
use Rattle.svr_status.specs.Writing.{HasRead, HasReadText, EndsUnread}
use Rattle.svr_status.proofs.Statuses.{refused_no_usage, fault_no_usage, memory_no_usage}
use Rattle.svr_status.specs.declared.status.Status.{Status}
use Rattle.svr_status.specs.declared.status.Status.TheVariants.{AllOne, SomeZero, Usage, SomeGivenUp, Refused, Limited, ReadFault, WriteFault, NoMemory}

pub if_told : {A : Type 0} (o : Option A) (P : A → Type 0) → ((x : A) → o ≡ Some x → P x) → IfSome o P
if_told None P h = tt
if_told (Some x) P h = h x refl

-- a source that is at its end gave all that it told
pub read_all : (old new : Option (List ℕ)) (all text : List ℕ) → old ≡ Some all → Consumes old new text → IsAtEnd new → all ≡ text
read_all None new all text e taken end = absurd (cc)
read_all (Some xs) None all text e taken end = absurd taken
read_all (Some xs) (Some ys) all text e taken end =
    let same : xs ≡ all = cc in
    sym same ∙ taken ∙ ap (λ r. text ++ r) end ∙ append-nil text

-- a source that gave n bytes told no fewer
pub read_some : (old new : Option (List ℕ)) (all : List ℕ) (n : ℕ) → old ≡ Some all → Takes old new n → n ≤ length all
read_some None new all n e (bytes, taken, count) = absurd (cc)
read_some (Some xs) None all n e (bytes, taken, count) = absurd taken
read_some (Some xs) (Some ys) all n e (bytes, taken, count) =
    let same : xs ≡ all = cc in
    let len : length all ≡ length bytes + length ys = ap length (sym same ∙ taken) ∙ length-append bytes ys in
    omega arith

-- ---- how far the text was read

-- as many bytes as were taken are no more than these
takes_no_more : (old new : Option (List ℕ)) (n : ℕ) → Takes old new n → TakesUpTo old new n
takes_no_more old new n (bytes, taken, count) = (bytes, taken, omega (arith, count))

-- within the limit is no further than one byte past it
pub takes_within : (old new : Option (List ℕ)) (limit : ℕ) → TakesUpTo old new limit → TakesUpTo old new (limit + 1)
takes_within old new limit (bytes, taken, few) = (bytes, taken, omega (arith, few))

-- nothing is no further than any limit
pub takes_nothing : (left : Option (List ℕ)) (limit : ℕ) → TakesUpTo left left limit
takes_nothing left limit = ([], Consumes-nil left, omega arith)

-- a text within the limit was read to its end
pub all_read : (limit : ℕ) (text : List ℕ) (result : Status) (old new : Option (List ℕ))
    → (result ≡ Usage → ⊥) → Consumes old new text → length text ≤ limit → IsAtEnd new → HasRead limit result old new
all_read limit text AllOne old new other taken few end = end
all_read limit text SomeZero old new other taken few end = end
all_read limit text Usage old new other taken few end = absurd (other refl)
all_read limit text SomeGivenUp old new other taken few end = end
all_read limit text Refused old new other taken few end = inl end
all_read limit text Limited old new other taken few end = end
all_read limit text ReadFault old new other taken few end = (text, taken, few)
all_read limit text WriteFault old new other taken few end = inl end
all_read limit text NoMemory old new other taken few end = takes_within old new limit (text, taken, few)

all_read_text : (limit : ℕ) (text : List ℕ) (result : Status) (old new : Option (List ℕ))
    → (result ≡ Usage → ⊥) → Consumes old new text → length text ≤ limit → IsAtEnd new → HasReadText limit text result old new
all_read_text limit text AllOne old new other taken few end = end
all_read_text limit text SomeZero old new other taken few end = end
all_read_text limit text Usage old new other taken few end = absurd (other refl)
all_read_text limit text SomeGivenUp old new other taken few end = end
all_read_text limit text Refused old new other taken few end = inl (few, end)
all_read_text limit text Limited old new other taken few end = end
all_read_text limit text ReadFault old new other taken few end = (text, taken, few)
all_read_text limit text WriteFault old new other taken few end = inl (few, end)
all_read_text limit text NoMemory old new other taken few end = takes_within old new limit (text, taken, few)

pub all_extent : (limit : ℕ) (text : List ℕ) (result : Status) (old new : Option (List ℕ))
    → (result ≡ Usage → ⊥) → Consumes old new text → length text ≤ limit → IsAtEnd new → IfSome old (λ all. HasReadText limit all result old new)
all_extent limit text result old new other taken few end =
    if_told old (λ all. HasReadText limit all result old new) (λ all told.
    let same : all ≡ text = read_all old new all text told taken end in
    subst (λ (t : List ℕ). HasReadText limit t result old new) (sym same) (all_read_text limit text result old new other taken few end))

-- a refusal was told, or not all of it
pub refusal_read : (limit : ℕ) (result : Status) (old new : Option (List ℕ)) (A F R N : Type 0) → Takes old new (limit + 1)
    → ((result ≡ Refused) × A) ⊎ (((result ≡ WriteFault) × F × R) ⊎ ((result ≡ NoMemory) × N)) → HasRead limit result old new
refusal_read limit result old new A F R N taken (inl (e, all)) = subst (λ s. HasRead limit s old new) (sym e) (inr taken)
refusal_read limit result old new A F R N taken (inr (inl (e, front, rose))) = subst (λ s. HasRead limit s old new) (sym e) (inr taken)
refusal_read limit result old new A F R N taken (inr (inr (e, kept))) = subst (λ s. HasRead limit s old new) (sym e) (takes_no_more old new (limit + 1) taken)

pub refusal_read_text : (limit : ℕ) (text : List ℕ) (result : Status) (old new : Option (List ℕ)) (A F R N : Type 0)
    → limit < length text → Takes old new (limit + 1)
    → ((result ≡ Refused) × A) ⊎ (((result ≡ WriteFault) × F × R) ⊎ ((result ≡ NoMemory) × N)) → HasReadText limit text result old new
refusal_read_text limit text result old new A F R N long taken (inl (e, all)) = subst (λ s. HasReadText limit text s old new) (sym e) (inr (long, taken))
refusal_read_text limit text result old new A F R N long taken (inr (inl (e, front, rose))) = subst (λ s. HasReadText limit text s old new) (sym e) (inr (long, taken))
refusal_read_text limit text result old new A F R N long taken (inr (inr (e, kept))) = subst (λ s. HasReadText limit text s old new) (sym e) (takes_no_more old new (limit + 1) taken)

-- of a command that reads a text of at most so many bytes
pub read_for : (n limit : ℕ) (result : Status) (old new : Option (List ℕ)) → limit ≡ n → HasRead n result old new → HasRead limit result old new
read_for n limit result old new e read = subst (λ (k : ℕ). HasRead k result old new) (sym e) read

pub extent_for : (n limit : ℕ) (o : Option (List ℕ)) (result : Status) (old new : Option (List ℕ)) → limit ≡ n
    → IfSome o (λ text. HasReadText n text result old new) → IfSome o (λ text. HasReadText limit text result old new)
extent_for n limit o result old new e read = subst (λ (k : ℕ). IfSome o (λ text. HasReadText k text result old new)) (sym e) read

pub ends_unread : (result : Status) (A F R : Type 0) → ((result ≡ Usage) × A) ⊎ ((result ≡ WriteFault) × F × R) → EndsUnread result
ends_unread result A F R (inl (e, all)) = inl e
ends_unread result A F R (inr (e, front, rose)) = inr (inl e)

-- ---- statuses that say which call failed

pub refusal_no_usage : (result : Status) (A F R N : Type 0) → ((result ≡ Refused) × A) ⊎ (((result ≡ WriteFault) × F × R) ⊎ ((result ≡ NoMemory) × N)) → result ≡ Usage → ⊥
refusal_no_usage result A F R N (inl (e, all)) u = refused_no_usage (sym e ∙ u)
refusal_no_usage result A F R N (inr (inl (e, front, rose))) u = fault_no_usage (sym e ∙ u)
refusal_no_usage result A F R N (inr (inr (e, kept))) u = memory_no_usage (sym e ∙ u)

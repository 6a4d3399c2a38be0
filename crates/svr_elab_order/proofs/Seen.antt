-- How many nodes were not seen, and how much of the way is left.
use Rattle.std.proofs.Common.{◌≡◌, ℕ, ◌+◌, ◌*◌, ◌<◌, [], ◌∷◌, ◌++◌, Bool, true, false, cond, List, length, sym, ap, ◌∙◌, arith, inl, inr, get_or}
use Rattle.std.proofs.Math.ListN.{set}
use Rattle.std.specs.List.{sum_by}
use Rattle.std.proofs.lemmas.Bool.{false≢true, cases_lt}
use Rattle.std.proofs.lemmas.List.{get_or_past, length-append}
use Rattle.std.proofs.lemmas.List.Sums.{sum_by-set}

abbrev open_one : Bool → ℕ
open_one b = cond b 0 1

abbrev pub unmarked : List Bool → ℕ
unmarked flags = sum_by (λ b. cond b 0 1) flags

-- a mark of one that was not leaves one less
one_less : (flags : List Bool) (v : ℕ) (d : Bool) → v < length flags → get_or flags v d ≡ false → unmarked (set flags v true) + 1 ≡ unmarked flags
one_less flags v d h e =
    let s = sum_by-set open_one flags v true d h in
    let one : open_one (get_or flags v d) ≡ 1 = ap open_one e in
    omega arith

-- one that was not seen is within
one_seen : (flags new : List Bool) (v : ℕ) → new ≡ set flags v true → get_or flags v true ≡ false → unmarked new + 1 ≡ unmarked flags
one_seen flags new v e h = elim (cases_lt v (length flags)) [
  | inl l ↦ ap (λ (k : List Bool). unmarked k + 1) e ∙ one_less flags v true l h
  | inr l ↦ absurd (false≢true (sym h ∙ get_or_past flags v true l))
]

-- a node more is seen: the way grows by one, and what is left of it to do shrinks by two
pub sooner : {A : Type 0} (flags new : List Bool) (v : ℕ) (way popped first next : List A) (x a b : A) → new ≡ set flags v true → get_or flags v true ≡ false → way ≡ popped ++ x ∷ [] → first ≡ popped ++ a ∷ [] → next ≡ first ++ b ∷ []
    → 2 * unmarked new + length next < 2 * unmarked flags + length way
sooner flags new v way popped first next x a b e h p q r =
    let seen : unmarked new + 1 ≡ unmarked flags = one_seen flags new v e h in
    let before : length way ≡ length popped + 1 = ap length p ∙ length-append popped (x ∷ []) in
    let once : length first ≡ length popped + 1 = ap length q ∙ length-append popped (a ∷ []) in
    let twice : length next ≡ length first + 1 = ap length r ∙ length-append first (b ∷ []) in
    omega (arith, seen, before, once, twice)

-- The first clause of a list, and the one behind another, are on it.
use Rattle.std.proofs.Common.{◌≡◌, ℕ, Bool, true, false, List, [], ◌∷◌, Option, None, Some, sym, subst}
use Rattle.std.specs.Prelude.{nat_eq, if◌then◌else◌, IfSome, slice_index}
use Rattle.std.proofs.lemmas.Bool.{or_left, or_right, eq-eqb}
use Rattle.svr_arena.specs.Layout.{Layout, is_in, first, after, watched}
use Rattle.svr_arena.specs.Arena.{body, lit_at}

pub first_is_on : (xs : List ℕ) (c : ℕ) → first xs ≡ Some c → is_in c xs ≡ true
first_is_on [] c h = absurd (cc)
first_is_on (x ∷ xs) c h = let same : x ≡ c = cc in or_left (nat_eq c x) (is_in c xs) (eq-eqb c x (sym same))

pub after_is_on : (xs : List ℕ) (c d : ℕ) → after xs c ≡ Some d → is_in d xs ≡ true
after_is_on [] c d h = absurd (cc)
after_is_on (x ∷ xs) c d h = or_right (nat_eq d x) (is_in d xs) (by_test (nat_eq x c) h (after_is_on xs c d))
  where
    by_test : (b : Bool) → (if b then first xs else after xs c) ≡ Some d → (after xs c ≡ Some d → is_in d xs ≡ true) → is_in d xs ≡ true
    by_test true e rest = first_is_on xs d e
    by_test false e rest = rest e

pub first_on : (xs : List ℕ) (r : Option ℕ) → r ≡ first xs → IfSome r (λ c. is_in c xs ≡ true)
first_on xs None h = tt
first_on xs (Some c) h = first_is_on xs c (sym h)

pub next_on : (xs : List ℕ) (b : ℕ) (r : Option ℕ) → r ≡ after xs b → IfSome r (λ c. is_in c xs ≡ true)
next_on xs b None h = tt
next_on xs b (Some c) h = after_is_on xs b c (sym h)

-- a clause of the literals 2 and 5 that is on the list of 2 is on that of its first literal
pub leads : (s : Layout) (c : ℕ) → body s c ≡ 2 ∷ 5 ∷ [] → is_in c (watched s 2) ≡ true → is_in c (watched s (lit_at s c 0)) ≡ true
leads s c own on = subst (λ (ls : List ℕ). is_in c (watched s (slice_index ls 0)) ≡ true) (sym own) on

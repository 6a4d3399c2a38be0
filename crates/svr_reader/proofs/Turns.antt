-- A recursion on a count, where code counts up to it.
use Rattle.std.proofs.Common.{◌≡◌, ℕ, suc, ◌+◌, ◌-◌, ◌<◌, ◌∙◌, ap, arith}

-- a loop over 0..n has done i turns
pub one_less : (n i : ℕ) → i < n → n - i ≡ suc (n - (i + 1))
one_less n i h = omega arith

-- one more turn: what holds of the turns left holds of one and of those left after it
pub one_more : {A : Type 0} (f : ℕ → A) {a : A} (n i : ℕ) → i < n → a ≡ f (n - i) → a ≡ f (suc (n - (i + 1)))
one_more f n i h e = e ∙ ap f (one_less n i h)

-- before the first turn
pub at_first : {A : Type 0} (f : ℕ → A) (n : ℕ) → f n ≡ f (n - 0)
at_first f n = let e : n ≡ n - 0 = omega arith in ap f e

-- a count above zero is one more than the count below it
pub deeper : {A : Type 0} (f : ℕ → A) (n : ℕ) → 0 < n → f n ≡ f (suc (n - 1))
deeper f n h = let e : n ≡ suc (n - 1) = omega arith in ap f e

-- Tests of the turns of a reduction, one after the other.
use Rattle.svr_frame.specs.Reads.{turns}
use Rattle.std.proofs.Common.{◌≡◌, ◌<◌, ℕ, zero, suc, ◌+◌, max, add-one, Bool, true, false, ◌||◌, refl, sym, ◌∙◌, ap, arith}
use Rattle.std.specs.Prelude.{nat_lt}
use Rattle.std.proofs.lemmas.Bool.{ltb-true, ltb-false}
use Rattle.svr_reads.specs.Placed.{any_below}

-- none of one turn more
pub none_more : (f : ℕ → Bool) (n : ℕ) → any_below n f ≡ false → f n ≡ false → any_below (n + 1) f ≡ false
none_more f n h k = rw (add-one n) (λ i. h i || k i)

or_true : (b : Bool) → (b || true) ≡ true
or_true true = refl
or_true false = refl

-- some of one turn
pub some_turn : (f : ℕ → Bool) (n i : ℕ) → i < n → f i ≡ true → any_below n f ≡ true
some_turn f zero i lt h = absurd (omega (arith, lt))
some_turn f (suc n) i lt h = by_place (nat_lt i n) refl (λ l. some_turn f n i l h)
  where
    by_place : (b : Bool) → nat_lt i n ≡ b → (i < n → any_below n f ≡ true) → (any_below n f || f n) ≡ true
    by_place true e before = ap (λ b. b || f n) (before (ltb-true i n e))
    by_place false e before = let last : i ≡ n = omega (arith, lt, ltb-false i n e) in ap (λ b. any_below n f || b) (sym (ap f last) ∙ h) ∙ or_true (any_below n f)

-- none of all turns
pub no_turn : (f : ℕ → Bool) (n m : ℕ) → any_below n f ≡ false → n ≡ m → false ≡ any_below m f
no_turn f n m h e = sym h ∙ ap (λ n. any_below n f) e

pub turns_most : (n : ℕ) → max n 1 ≡ turns n
turns_most zero = refl
turns_most (suc n) = omega arith

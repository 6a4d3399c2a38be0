-- A vector between two bounds that are in order has 1 to 64 bits.
use Rattle.std.proofs.Common.{◌≡◌, ℕ, ◌≤◌, min, ℤ, pos, negsuc, Bool, true, false, ◌||◌, nat_lt, if◌then◌else◌, Option, None, Some, refl, true≢false, arith}
use Rattle.std.specs.Prelude.{int_lt, ◌+ℤ◌, ◌-ℤ◌}
use Rattle.std.proofs.lemmas.Bool.Decides.{nat_tests}
use Rattle.std.proofs.lemmas.Int.{ints}
use Rattle.svr_elab_names.specs.declared.Vector.{Vector}
use Rattle.svr_elab_part.specs.Fits.{KindFits}
use Rattle.svr_elab_part.specs.Shapes.{both_known, count_of}
use Rattle.svr_elab_type.specs.Types.{vector, ascends, is_over_64, range_width, range_kind, lowest_bit, bits_between}

or_left : (a b : Bool) → (a || b) ≡ false → a ≡ false
or_left true b h = absurd (true≢false h)
or_left false b h = refl

or_right : (a b : Bool) → (a || b) ≡ false → b ≡ false
or_right true b h = absurd (true≢false h)
or_right false b h = h

counted_from : (z m l : ℤ) → z ≡ m -ℤ l +ℤ pos 1 → int_lt m l ≡ false → 1 ≤ min 65 (count_of z)
counted_from (pos n) m l e h = let k : 1 ≤ n = grind (arith, ints, e, h) in omega arith
counted_from (negsuc n) m l e h = absurd (grind (arith, ints, e, h))

not_over : (w : ℕ) → nat_lt 64 w ≡ false → w ≤ 64
not_over w h = grind (arith, nat_tests, h)

vector_fits : (w : ℕ) (s : Bool) (low : Option ℤ) → 1 ≤ w → w ≤ 64 → KindFits (both_known (λ w low. vector w s low) (Some w) low)
vector_fits w s None h k = tt
vector_fits w s (Some low) h k = (h, k)

between_fits : (s : Bool) (m l : Option ℤ) → (ascends m l || is_over_64 (range_width m l)) ≡ false → KindFits (both_known (λ w low. vector w s low) (range_width m l) (lowest_bit l))
between_fits s None l h = tt
between_fits s (Some m) None h = tt
between_fits s (Some m) (Some l) h =
    vector_fits (bits_between m l) s (lowest_bit (Some l)) (counted_from (m -ℤ l +ℤ pos 1) m l refl (or_left (int_lt m l) (nat_lt 64 (bits_between m l)) h))
    (not_over (bits_between m l) (or_right (int_lt m l) (nat_lt 64 (bits_between m l)) h))

kept_if : (bad : Bool) (k : Option Vector) → (bad ≡ false → KindFits k) → KindFits (if bad then None else k)
kept_if true k h = tt
kept_if false k h = h refl

pub range_fits : (a b s : Bool) (m l : Option ℤ) → KindFits (range_kind (a || (b || (ascends m l || is_over_64 (range_width m l)))) s m l)
range_fits a b s m l =
    kept_if (a || (b || (ascends m l || is_over_64 (range_width m l)))) (both_known (λ w low. vector w s low) (range_width m l) (lowest_bit l))
    (λ h. between_fits s m l (or_right b (ascends m l || is_over_64 (range_width m l)) (or_right a (b || (ascends m l || is_over_64 (range_width m l))) h)))

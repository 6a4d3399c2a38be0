-- Steps of loops over numbers, and powers of 2
use Rattle.std.proofs.Common.{◌≡◌, ℕ, ◌+◌, ◌^◌, ◌≤◌, List, [], ◌∷◌, ◌++◌, ap, arith, add-one}
use Rattle.std.proofs.Math.Nat.{pow-le-pow_right}
use Rattle.std.proofs.lemmas.Nat.{pow_pos}
use Rattle.svr_typed.specs.declared.class.NumType.{NumType}
use Rattle.svr_cover_union.specs.declared.ranges.Range.{Range}
use Rattle.svr_cover_made.specs.Named.{each_name, with_numbers}
use Rattle.svr_cover_made.specs.Stored.{with_range, with_singles}

pub one_name : (names : List (List ℕ)) (name : List ℕ) (low n : ℕ) → with_numbers names name low (n + 1) ≡ with_numbers names name low n ++ each_name name (low + n) ∷ []
one_name names name low n = ap (with_numbers names name low) (add-one n)

pub one_single : (kind : NumType) (bins : List (List Range)) (low n : ℕ) → with_singles kind bins low (n + 1) ≡ with_singles kind bins low n ++ with_range kind [] (low + n) (low + n) ∷ []
one_single kind bins low n = ap (with_singles kind bins low) (add-one n)

pub power_low : (k : ℕ) → 1 ≤ 2 ^ k
power_low k = omega (arith, pow_pos k)

pub power_high : (k : ℕ) → k ≤ 64 → 2 ^ k ≤ 18446744073709551616
power_high k h = pow-le-pow_right {n = 2} (omega arith) h

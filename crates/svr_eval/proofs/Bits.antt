-- Bits above and below a place.
use Rattle.std.proofs.Common.{◌≡◌, ℕ, zero, suc, ◌+◌, ◌-◌, ◌*◌, ◌/◌, ◌%◌, ◌^◌, ◌<◌, ◌≤◌, ◌∙◌, ap, arith}
use Rattle.std.proofs.Math.Pow.{pow_mono}
use Rattle.std.proofs.Math.Nat.{div-eq_of_lt, mod-eq_of_lt}
use Rattle.std.proofs.lemmas.Nat.{mod_low, pow-add, pow_pos, mul-add-lt, shl_whole, row_fits}
use Rattle.svr_num.specs.Num.{Word}

-- a number that fits is left as it is
pub word_is : (x : Word) (v w : ℕ) → v < 2 ^ w → x ≡ record { value = v % 2 ^ w; width = w } → x ≡ record { value = v; width = w }
word_is x v w h e = rw (← mod-eq_of_lt h) e

-- nothing is left of bits that were all moved past the width
pub moved_past : (v k n : ℕ) → n ≤ k → v * 2 ^ k % 2 ^ n ≡ 0
moved_past v k n h =
    let e : 2 ^ k ≡ 2 ^ (k - n) * 2 ^ n = ap (λ j. 2 ^ j) (omega arith) ∙ pow-add 2 (k - n) n in
    let s : v * (2 ^ (k - n) * 2 ^ n) ≡ v * 2 ^ (k - n) * 2 ^ n + 0 = omega arith in
    ap (λ x. (v * x) % 2 ^ n) e ∙ ap (λ x. x % 2 ^ n) s ∙ mod_low (v * 2 ^ (k - n)) n 0 (pow_pos n)

-- nothing is left of bits that were all moved out below
pub moved_out : (v k w : ℕ) → v < 2 ^ 64 → 64 ≤ k → v / 2 ^ k % 2 ^ w ≡ 0
moved_out v k w h far =
    let p = pow_mono {i = 64} {j = k} far in
    let q : v / 2 ^ k ≡ 0 = div-eq_of_lt (omega (arith, p, h)) in
    ap (λ x. x % 2 ^ w) q ∙ mod-eq_of_lt (pow_pos w)

-- a high part above a low one fits the sum of their widths
pub joined_fits : (high low m n : ℕ) → high < 2 ^ m → low < 2 ^ n → high * 2 ^ n + low < 2 ^ (m + n)
joined_fits high low m n p q =
    let e : 2 ^ (m + n) ≡ 2 ^ n * 2 ^ m = ap (λ j. 2 ^ j) (omega arith) ∙ pow-add 2 n m in
    rw e (mul-add-lt high (2 ^ n) low (2 ^ m) p q)

-- what the code computes in 128 bits
pub joined_is : (high low m n : ℕ) → m + n ≤ 64 → high < 2 ^ m → low < 2 ^ n → ((high * 2 ^ n) % 2 ^ 128 + low) % 2 ^ (m + n) ≡ high * 2 ^ n + low
joined_is high low m n few p q =
    ap (λ x. (x + low) % 2 ^ (m + n)) (shl_whole high m n 128 p (omega (arith, few))) ∙ mod-eq_of_lt (joined_fits high low m n p q)

-- one more copy fits
pub copy_fits : (made count width limit : ℕ) → made < count → count * width ≤ limit → made * width + width ≤ limit
copy_fits made count width limit less fits =
    let step : made * width + width ≤ count * width = row_fits made width count width less (omega arith) in
    omega (arith, step, fits)

-- a product is no less than its factors
pub factors : (n m w : ℕ) → n * m ≡ w → 1 ≤ w → (1 ≤ n) × (1 ≤ m) × (m ≤ w)
factors zero m w e h = absurd (omega (arith, e, h))
factors (suc n) zero w e h = absurd (omega (arith, e, h))
factors (suc n) (suc m) w e h =
    let more : suc n * suc m ≡ n * suc m + suc m = omega arith in
    (omega arith, omega arith, omega (arith, e, more))

-- each size has a place for 1
pub one_fits : (w : ℕ) → 1 ≤ w → 1 < 2 ^ w
one_fits w h =
    let p = pow_mono {i = 1} {j = w} h in
    omega (arith, p)

-- Shifts past a number's length
use Rattle.std.proofs.Common.{◌≡◌, ℕ, suc, ◌+◌, ◌-◌, ◌*◌, ◌/◌, ◌%◌, ◌^◌, ◌<◌, ◌≤◌, ◌⊎◌, inl, inr, ⊎_elim, min, ltb, sym, ◌∙◌, ap, subst, arith, ℤ, pos, negsuc, ◌-ℤ◌}
use Rattle.std.proofs.lemmas.Bool.{cases_lt, cond_both}
use Rattle.std.proofs.Math.Pow.{pow_mono}
use Rattle.std.proofs.Math.Nat.{div-eq_of_lt, mod-eq_of_lt}
use Rattle.std.specs.Int.{int_shr, cast_signed, cast_unsigned, w128}
use Rattle.std.proofs.lemmas.Int.{to_z-of_z, ints}
use Rattle.std.proofs.lemmas.Nat.{mod_low, pow-add, pow_pos}
use mir.Val.{SFits}
use lib.Signed.{shr_z, mag_shr}
use Rattle.svr_num.specs.Num.{signed_of, IsWord, residue, sub_of}

shr_min : (m by : ℕ) → m < 2 ^ 64 → m / 2 ^ min by 64 ≡ m / 2 ^ by
shr_min m by h =
    ⊎_elim
    (λ (l : by < 64). let e : min by 64 ≡ by = omega arith in ap (λ k. m / 2 ^ k) e)
    (λ (g : 64 ≤ by).
    let e : min by 64 ≡ 64 = omega arith in
    ap (λ k. m / 2 ^ k) e ∙ div-eq_of_lt h ∙ sym (div-eq_of_lt (omega (arith, pow_mono {i = 64} {j = by} g))))
    (cases_lt by 64)

pub sar_min : (w n by : ℕ) → 1 ≤ w → w ≤ 64 → n < 2 ^ w → int_shr (signed_of w n) (min by 64) ≡ int_shr (signed_of w n) by
sar_min w n by low high h =
    let p = pow_mono {i = w} {j = 64} high in
    cond_both (ltb n (2 ^ (w - 1))) (pos n) (negsuc (2 ^ w - suc n))
    (λ z. int_shr z (min by 64) ≡ int_shr z by)
    (λ e. ap pos (shr_min n by (omega arith)))
    (λ e. ap negsuc (shr_min (2 ^ w - suc n) by (omega arith)))

signed_fits : (w n : ℕ) → IsWord n w → SFits w128 (signed_of w n)
signed_fits w n h =
    let p = pow_mono {i = w} {j = 64} h.1 in
    cond_both (ltb n (2 ^ (w - 1))) (pos n) (negsuc (2 ^ w - suc n))
    (λ z. SFits w128 z)
    (λ e. record { sfits = omega (arith, h.2) })
    (λ e. record { sfits = omega (arith, h.2) })

shr_fits : (z : ℤ) (m : ℕ) → SFits w128 z → SFits w128 (shr_z z m)
shr_fits z m f = record { sfits = omega (arith, f.sfits, mag_shr z m) }

-- what the code's shift computes
pub sar_read : (w n by m : ℕ) (z : ℤ) → IsWord n w → z ≡ signed_of w n → m ≡ min by 64 → cast_signed w128 (cast_unsigned w128 (shr_z (cast_signed w128 (cast_unsigned w128 z)) (2 ^ m))) ≡ int_shr (signed_of w n) by
sar_read w n by m z h e k =
    let f : SFits w128 z = subst (λ (x : ℤ). SFits w128 x) (sym e) (signed_fits w n h) in
    let s = to_z-of_z w128 z f in
    let g = shr_fits z (2 ^ m) f in
    ap (λ (x : ℤ). cast_signed w128 (cast_unsigned w128 (shr_z x (2 ^ m)))) s
    ∙ to_z-of_z w128 (shr_z z (2 ^ m)) g
    ∙ ap (λ (x : ℤ). shr_z x (2 ^ m)) e
    ∙ ap (λ (x : ℕ). shr_z (signed_of w n) (2 ^ x)) k
    ∙ sar_min w n by h.0 h.1 h.2

-- a difference without signs
pub sub_of_is : (w m n : ℕ) → m < 2 ^ w → n < 2 ^ w → (m + (2 ^ w - n)) % 2 ^ w ≡ sub_of w m n
sub_of_is w m n hm hn =
    ⊎_elim
    (λ (g : n ≤ m).
    let z : pos m -ℤ pos n ≡ pos (m - n) = omega (arith, ints) in
    let s : m + (2 ^ w - n) ≡ 1 * 2 ^ w + (m - n) = omega arith in
    ap (λ x. x % 2 ^ w) s ∙ mod_low 1 w (m - n) (omega arith) ∙ sym (ap (residue w) z ∙ mod-eq_of_lt (omega arith)))
    (λ (l : m < n).
    let z : pos m -ℤ pos n ≡ negsuc (n - m - 1) = omega (arith, ints) in
    mod-eq_of_lt (omega arith) ∙ sym (ap (residue w) z ∙ ap (λ x. 2 ^ w - suc x) (mod-eq_of_lt (omega arith)) ∙ omega arith))
    (cases_le n m) where
      cases_le : (a b : ℕ) → (a ≤ b) ⊎ (b < a)
      cases_le a b = ⊎_elim (λ (h : b < a). inr h) (λ (h : a ≤ b). inl h) (cases_lt b a)

-- past the width nothing is left
pub past : (v k n : ℕ) → n ≤ k → (v * 2 ^ k) % 2 ^ n ≡ 0
past v k n h =
    let e : 2 ^ k ≡ 2 ^ (k - n) * 2 ^ n = ap (λ j. 2 ^ j) (omega arith) ∙ pow-add 2 (k - n) n in
    ap (λ x. (v * x) % 2 ^ n) e ∙ ap (λ x. x % 2 ^ n) (omega arith) ∙ mod_low (v * 2 ^ (k - n)) n 0 (pow_pos n)

-- A signed quotient and rest by magnitudes
use Rattle.std.proofs.Common.{◌≡◌, ℕ, ℤ, suc, ◌-◌, ◌/◌, ◌%◌, ◌^◌, ◌<◌, ◌≤◌, ◌==◌, ⊎_elim, Bool, true, false, cond, leb, refl, ◌∙◌, ap, arith, pos, neg_ℤ}
use Rattle.std.specs.Prelude.{int_div}
use Rattle.std.proofs.lemmas.Bool.{cases_lt, lt-ltb, le-ltb, le-leb, lt-leb}
use Rattle.std.specs.Int.{cast_signed, cast_unsigned, w128}
use Rattle.std.specs.Prelude.{int_rem}
use Rattle.std.proofs.lemmas.Int.{rem_is}
use mir.Val.{SFits}
use Rattle.svr_num.specs.Num.{signed_of, residue, neg_of, rem_of}

-- whether the sign bit is set, and the number without its sign
abbrev pub is_low : ℕ → ℕ → Bool
is_low w n = leb (2 ^ (w - 1)) n

abbrev pub magnitude : ℕ → ℕ → ℕ
magnitude w n = cond (is_low w n) (2 ^ w - n) n

pub quotient_signed : (w m n : ℕ) → m < 2 ^ w → n < 2 ^ w → residue w (int_div (signed_of w m) (signed_of w n)) ≡ cond (is_low w m) (cond (is_low w n) ((magnitude w m / magnitude w n) % 2 ^ w) (neg_of w (magnitude w m / magnitude w n))) (cond (is_low w n) (neg_of w (magnitude w m / magnitude w n)) ((magnitude w m / magnitude w n) % 2 ^ w))
quotient_signed w m n hm hn =
    let em : suc (2 ^ w - suc m) ≡ 2 ^ w - m = omega arith in
    let en : suc (2 ^ w - suc n) ≡ 2 ^ w - n = omega arith in
    ⊎_elim
    (λ (p : m < 2 ^ (w - 1)).
    ⊎_elim
    (λ (q : n < 2 ^ (w - 1)). rw (lt-ltb m (2 ^ (w - 1)) p, lt-ltb n (2 ^ (w - 1)) q, lt-leb (2 ^ (w - 1)) m p, lt-leb (2 ^ (w - 1)) n q) refl)
    (λ (q : 2 ^ (w - 1) ≤ n). rw (lt-ltb m (2 ^ (w - 1)) p, le-ltb n (2 ^ (w - 1)) q, lt-leb (2 ^ (w - 1)) m p, le-leb (2 ^ (w - 1)) n q) (ap (λ d. residue w (neg_ℤ (pos (m / d)))) en))
    (cases_lt n (2 ^ (w - 1))))
    (λ (p : 2 ^ (w - 1) ≤ m).
    ⊎_elim
    (λ (q : n < 2 ^ (w - 1)). rw (le-ltb m (2 ^ (w - 1)) p, lt-ltb n (2 ^ (w - 1)) q, le-leb (2 ^ (w - 1)) m p, lt-leb (2 ^ (w - 1)) n q) (ap (λ d. residue w (neg_ℤ (pos (d / n)))) em))
    (λ (q : 2 ^ (w - 1) ≤ n). rw (le-ltb m (2 ^ (w - 1)) p, le-ltb n (2 ^ (w - 1)) q, le-leb (2 ^ (w - 1)) m p, le-leb (2 ^ (w - 1)) n q) (ap (λ d. (d / suc (2 ^ w - suc n)) % 2 ^ w) em ∙ ap (λ d. ((2 ^ w - m) / d) % 2 ^ w) en))
    (cases_lt n (2 ^ (w - 1))))
    (cases_lt m (2 ^ (w - 1)))

not_zero : (n : ℕ) → 0 < n → (n == 0) ≡ false
not_zero n h = grind arith

-- what the code's remainder of numbers with signs computes
pub rem_read : (s : Bool) (w m n : ℕ) (a d : ℤ) → s ≡ true → 0 < n → a ≡ signed_of w m → d ≡ signed_of w n → SFits w128 a → SFits w128 d
    → residue w (cast_signed w128 (cast_unsigned w128 (int_rem (cast_signed w128 (cast_unsigned w128 a)) (cast_signed w128 (cast_unsigned w128 d))))) ≡ rem_of s w m n
rem_read s w m n a d t p ea ed fa fd =
    ap (residue w) (rem_is w128 a d fa fd)
    ∙ ap (λ (z : ℤ). residue w (int_rem z d)) ea
    ∙ ap (λ (z : ℤ). residue w (int_rem (signed_of w m) z)) ed
    ∙ rw (t, not_zero n p) refl

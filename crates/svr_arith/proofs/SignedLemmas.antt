-- Quotients and remainders with a sign, by magnitudes
use Rattle.std.proofs.Common.{◌≡◌, ℕ, zero, suc, ◌-◌, ◌/◌, ◌%◌, ◌^◌, ◌<◌, ◌≤◌, Bool, true, false, cond, not, leb, eqb, List, [], ◌∷◌, length, get_or, refl, sym, ◌∙◌, ap, arith, subst, ⊎_elim, ℤ, pos, negsuc, nat_abs, neg_ℤ}
use Rattle.std.specs.Prelude.{int_div, int_rem}
use Rattle.std.proofs.lemmas.Bool.{cases_lt, cases_eq, lt-ltb, le-ltb, le-leb, lt-leb, eq-eqb, ne_eqb}
use Rattle.std.proofs.Math.Nat.{mod-eq_of_lt, div-le_self, mod-le, zero-mod}
use Rattle.std.proofs.lemmas.Nat.{pow_pos}
use Rattle.svr_chain.specs.declared.clause.Lit.{Lit}
use Rattle.svr_chain.specs.Valuations.{lit_value}
use Rattle.svr_gate.specs.Numbers.{number}
use Rattle.svr_gate.specs.Gates.{table_value}
use Rattle.svr_gate.specs.Circuit.{Circuit, Extends, Tells, GivesNumber}
use Rattle.svr_gate.proofs.NumberLemmas.{number-lt}
use Rattle.svr_gate.proofs.TableLemmas.{Tells-unequal}
use Rattle.svr_gate.proofs.Vectors.{GivesNumber-same, GivesNumber-width}
use Rattle.svr_arith.proofs.OrderLemmas.{top_bit}
use Rattle.svr_num.specs.Num.{signed_of, residue, neg_of, div_of, rem_of}

abbrev pub is_negative : ℤ → Bool
is_negative (pos n) = false
is_negative (negsuc n) = true

sign_bit : (w n : ℕ) → leb (2 ^ (w - 1)) n ≡ is_negative (signed_of w n)
sign_bit w n =
    ⊎_elim
    (λ (q : n < 2 ^ (w - 1)). rw (lt-leb (2 ^ (w - 1)) n q, lt-ltb n (2 ^ (w - 1)) q) refl)
    (λ (q : 2 ^ (w - 1) ≤ n). rw (le-leb (2 ^ (w - 1)) n q, le-ltb n (2 ^ (w - 1)) q) refl)
    (cases_lt n (2 ^ (w - 1)))

-- a number without its sign
pub magnitude_value : (w n : ℕ) → n < 2 ^ w → cond (leb (2 ^ (w - 1)) n) (neg_of w n) n ≡ nat_abs (signed_of w n)
magnitude_value w n h =
    ⊎_elim
    (λ (q : n < 2 ^ (w - 1)). rw (lt-leb (2 ^ (w - 1)) n q, lt-ltb n (2 ^ (w - 1)) q) refl)
    (λ (q : 2 ^ (w - 1) ≤ n).
    rw (le-leb (2 ^ (w - 1)) n q, le-ltb n (2 ^ (w - 1)) q)
    (negated n (omega (arith, pow_pos (w - 1))) h))
    (cases_lt n (2 ^ (w - 1))) where
      negated : (k : ℕ) → 0 < k → k < 2 ^ w → neg_of w k ≡ suc (2 ^ w - suc k)
      negated zero g lt = absurd (omega arith)
      negated (suc k) g lt =
          let e : k % 2 ^ w ≡ k = mod-eq_of_lt (omega arith) in
          ap (λ j. 2 ^ w - suc j) e ∙ omega arith

abs_small : (w n : ℕ) → n < 2 ^ w → nat_abs (signed_of w n) < 2 ^ w
abs_small w n h =
    ⊎_elim
    (λ (q : n < 2 ^ (w - 1)). rw (lt-ltb n (2 ^ (w - 1)) q) h)
    (λ (q : 2 ^ (w - 1) ≤ n). rw (le-ltb n (2 ^ (w - 1)) q) (omega (arith, pow_pos (w - 1))))
    (cases_lt n (2 ^ (w - 1)))

abs_zero : (w n : ℕ) → n < 2 ^ w → eqb (nat_abs (signed_of w n)) 0 ≡ eqb n 0
abs_zero w n h =
    ⊎_elim
    (λ (q : n < 2 ^ (w - 1)). rw (lt-ltb n (2 ^ (w - 1)) q) refl)
    (λ (q : 2 ^ (w - 1) ≤ n). rw (le-ltb n (2 ^ (w - 1)) q) (ne_eqb (suc (2 ^ w - suc n)) 0 (λ z. omega arith) ∙ sym (ne_eqb n 0 (λ z. omega (arith, pow_pos (w - 1))))))
    (cases_lt n (2 ^ (w - 1)))

quotient_sign : (w : ℕ) (z y : ℤ) → nat_abs z < 2 ^ w
    → cond (cond (is_negative z) (not (is_negative y)) (is_negative y)) (neg_of w ((nat_abs z / nat_abs y) % 2 ^ w)) ((nat_abs z / nat_abs y) % 2 ^ w) ≡ residue w (int_div z y)
quotient_sign w (pos a) (pos b) h = refl
quotient_sign w (pos a) (negsuc b) h = ap (λ q. residue w (neg_ℤ (pos q))) (mod-eq_of_lt (omega (arith, div-le_self a (suc b))))
quotient_sign w (negsuc a) (pos b) h = ap (λ q. residue w (neg_ℤ (pos q))) (mod-eq_of_lt (omega (arith, div-le_self (suc a) b)))
quotient_sign w (negsuc a) (negsuc b) h = refl

rest_sign : (w : ℕ) (z y : ℤ) → nat_abs z < 2 ^ w → cond (is_negative z) (neg_of w ((nat_abs z % nat_abs y) % 2 ^ w)) ((nat_abs z % nat_abs y) % 2 ^ w) ≡ residue w (int_rem z y)
rest_sign w (pos a) y h = refl
rest_sign w (negsuc a) y h = ap (λ q. residue w (neg_ℤ (pos q))) (mod-eq_of_lt (omega (arith, mod-le (suc a) (nat_abs y))))

no_sign : (w : ℕ) (s : Bool) → cond s (neg_of w 0) 0 ≡ 0
no_sign w true = zero-mod (2 ^ w)
no_sign w false = refl

-- n is the divisor, and k what the circuit gives where it is not 0
guarded : (w n l k r : ℕ) (s : Bool) → eqb l 0 ≡ eqb n 0 → cond s (neg_of w k) k ≡ r → cond s (neg_of w (cond (eqb l 0) 0 k)) (cond (eqb l 0) 0 k) ≡ cond (eqb n 0) 0 r
guarded w n l k r s e f =
    ap (λ b. cond s (neg_of w (cond b 0 k)) (cond b 0 k)) e
    ∙ ⊎_elim
    (λ (z : n ≡ 0). rw (eq-eqb n 0 z) (no_sign w s))
    (λ (z : n ≡ 0 → ⊥). rw (ne_eqb n 0 z) f)
    (cases_eq n 0)

pub signed_div : (w m n : ℕ) (s : Bool) → m < 2 ^ w → n < 2 ^ w → s ≡ cond (leb (2 ^ (w - 1)) m) (not (leb (2 ^ (w - 1)) n)) (leb (2 ^ (w - 1)) n)
    → cond s (neg_of w (div_of false w (nat_abs (signed_of w m)) (nat_abs (signed_of w n)))) (div_of false w (nat_abs (signed_of w m)) (nat_abs (signed_of w n))) ≡ div_of true w m n
signed_div w m n s hm hn e =
    let z = signed_of w m in
    let y = signed_of w n in
    let k = (nat_abs z / nat_abs y) % 2 ^ w in
    guarded w n (nat_abs y) k (residue w (int_div z y)) s (abs_zero w n hn)
    (ap (λ b. cond b (neg_of w k) k) (e ∙ ap (λ b. cond b (not (leb (2 ^ (w - 1)) n)) (leb (2 ^ (w - 1)) n)) (sign_bit w m) ∙ ap (λ b. cond (is_negative z) (not b) b) (sign_bit w n))
    ∙ quotient_sign w z y (abs_small w m hm))

pub signed_rem : (w m n : ℕ) (s : Bool) → m < 2 ^ w → n < 2 ^ w → s ≡ leb (2 ^ (w - 1)) m
    → cond s (neg_of w (rem_of false w (nat_abs (signed_of w m)) (nat_abs (signed_of w n)))) (rem_of false w (nat_abs (signed_of w m)) (nat_abs (signed_of w n))) ≡ rem_of true w m n
signed_rem w m n s hm hn e =
    let z = signed_of w m in
    let y = signed_of w n in
    let k = (nat_abs z % nat_abs y) % 2 ^ w in
    guarded w n (nat_abs y) k (residue w (int_rem z y)) s (abs_zero w n hn)
    (ap (λ b. cond b (neg_of w k) k) (e ∙ sign_bit w m) ∙ rest_sign w z y (abs_small w m hm))

-- the signs of two numbers of one width
module _ (a : ℕ → Bool) (x y : List Lit) (d : Lit) (some : 1 ≤ length x) (len : length x ≡ length y) where
  y_small : number a y < 2 ^ length x
  y_small = subst (λ (k : ℕ). number a y < 2 ^ k) (sym len) (number-lt a y)

  x_sign : lit_value a (get_or x (length x - 1) d) ≡ leb (2 ^ (length x - 1)) (number a x)
  x_sign = top_bit a x (length x - 1) d (omega arith)

  y_sign : lit_value a (get_or y (length x - 1) d) ≡ leb (2 ^ (length x - 1)) (number a y)
  y_sign = top_bit a y (length x - 1) d (omega arith)

pub magnitude_gives : {c : Circuit} {v : List Lit} (x : List Lit) (d : Lit) → 1 ≤ length x
    → GivesNumber c v (length x) (λ a. cond (lit_value a (get_or x (length x - 1) d)) (neg_of (length x) (number a x)) (number a x)) → GivesNumber c v (length x) (λ a. nat_abs (signed_of (length x) (number a x)))
magnitude_gives x d some g =
    GivesNumber-same (λ a. nat_abs (signed_of (length x) (number a x))) g
    (λ a m. ap (λ b. cond b (neg_of (length x) (number a x)) (number a x)) (top_bit a x (length x - 1) d (omega arith)) ∙ magnitude_value (length x) (number a x) (number-lt a x))

-- from the magnitudes to the result, circuit by circuit
module _ (c1 c2 c3 c4 : Circuit) (x y dividend divisor : List Lit) (d : Lit) (some : 1 ≤ length x) (len : length x ≡ length y) (e12 : Extends c1 c2) (e23 : Extends c2 c3) (e34 : Extends c3 c4)
    (p : GivesNumber c1 dividend (length x) (λ a. nat_abs (signed_of (length x) (number a x)))) (q : GivesNumber c2 divisor (length y) (λ a. nat_abs (signed_of (length y) (number a y)))) where
  module _ (c5 : Circuit) (e45 : Extends c4 c5) (quotient v : List Lit) (sign : Lit) (r : GivesNumber c3 quotient (length dividend) (λ a. div_of false (length dividend) (number a dividend) (number a divisor)))
      (s : Tells c4 sign (λ a. table_value 0x6 (number a (get_or x (length x - 1) d ∷ get_or y (length x - 1) d ∷ []))))
      (t : GivesNumber c5 v (length quotient) (λ a. cond (lit_value a sign) (neg_of (length quotient) (number a quotient)) (number a quotient))) where
    pub signed_quotient_gives : GivesNumber c5 v (length x) (λ a. div_of true (length x) (number a x) (number a y))
    signed_quotient_gives =
        GivesNumber-same (λ a. div_of true (length x) (number a x) (number a y)) (GivesNumber-width (r.len ∙ p.len) t)
        (λ a m.
        let m4 = e45.keeps a m in
        let m3 = e34.keeps a m4 in
        let m2 = e23.keeps a m3 in
        let w = length x in
        let signs : lit_value a sign ≡ cond (leb (2 ^ (w - 1)) (number a x)) (not (leb (2 ^ (w - 1)) (number a y))) (leb (2 ^ (w - 1)) (number a y))
        = (Tells-unequal (get_or x (w - 1) d) (get_or y (w - 1) d) s).value a m4
        ∙ ap (λ b. cond b (not (lit_value a (get_or y (w - 1) d))) (lit_value a (get_or y (w - 1) d))) (x_sign a x y d some len)
        ∙ ap (λ b. cond (leb (2 ^ (w - 1)) (number a x)) (not b) b) (y_sign a x y d some len) in
        ap (λ k. cond (lit_value a sign) (neg_of k (number a quotient)) (number a quotient)) (r.len ∙ p.len)
        ∙ ap (λ k. cond (lit_value a sign) (neg_of w k) k)
        (r.value a m3
        ∙ ap (λ k. div_of false k (number a dividend) (number a divisor)) p.len
        ∙ ap (λ k. div_of false w k (number a divisor)) (p.value a (e12.keeps a m2))
        ∙ ap (λ k. div_of false w (nat_abs (signed_of w (number a x))) k) (q.value a m2 ∙ ap (λ k. nat_abs (signed_of k (number a y))) (sym len)))
        ∙ signed_div w (number a x) (number a y) (lit_value a sign) (number-lt a x) (y_small a x y d some len) signs)

  module _ (remainder v : List Lit) (r : GivesNumber c3 remainder (length dividend) (λ a. rem_of false (length dividend) (number a dividend) (number a divisor)))
      (t : GivesNumber c4 v (length remainder) (λ a. cond (lit_value a (get_or x (length x - 1) d)) (neg_of (length remainder) (number a remainder)) (number a remainder))) where
    pub signed_remainder_gives : GivesNumber c4 v (length x) (λ a. rem_of true (length x) (number a x) (number a y))
    signed_remainder_gives =
        GivesNumber-same (λ a. rem_of true (length x) (number a x) (number a y)) (GivesNumber-width (r.len ∙ p.len) t)
        (λ a m.
        let m3 = e34.keeps a m in
        let m2 = e23.keeps a m3 in
        let w = length x in
        let sign = lit_value a (get_or x (w - 1) d) in
        ap (λ k. cond sign (neg_of k (number a remainder)) (number a remainder)) (r.len ∙ p.len)
        ∙ ap (λ k. cond sign (neg_of w k) k)
        (r.value a m3
        ∙ ap (λ k. rem_of false k (number a dividend) (number a divisor)) p.len
        ∙ ap (λ k. rem_of false w k (number a divisor)) (p.value a (e12.keeps a m2))
        ∙ ap (λ k. rem_of false w (nat_abs (signed_of w (number a x))) k) (q.value a m2 ∙ ap (λ k. nat_abs (signed_of k (number a y))) (sym len)))
        ∙ signed_rem w (number a x) (number a y) sign (number-lt a x) (y_small a x y d some len) (x_sign a x y d some len))

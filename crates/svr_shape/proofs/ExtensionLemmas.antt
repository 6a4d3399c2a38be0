-- Vectors filled at the high end
use Rattle.std.proofs.Common.{◌≡◌, ℕ, suc, ◌+◌, ◌-◌, ◌*◌, ◌/◌, ◌%◌, ◌^◌, ◌<◌, ◌≤◌, Bool, true, false, cond, not, eqb, ltb, List, ◌++◌, length, replicate, get_or, sym, ◌∙◌, ap, arith, ⊎_elim, subst}
use Rattle.std.proofs.lemmas.Bool.{cases_lt, lt-ltb, le-ltb}
use Rattle.std.proofs.lemmas.Nat.{pow-add, pow_pos, div-mul-add}
use Rattle.std.proofs.Math.Nat.{mod-eq_of_lt, pow-suc, div-eq_of_lt}
use Rattle.std.proofs.Math.Pow.{pow_mono}
use Rattle.svr_chain.specs.declared.clause.Lit.{Lit}
use Rattle.svr_chain.specs.Clauses.{AreWithin}
use Rattle.svr_num.specs.Num.{extend_of}
use Rattle.svr_gate.specs.Numbers.{number}
use Rattle.svr_gate.specs.Circuit.{Circuit, Tells, GivesNumber}
use Rattle.svr_gate.proofs.NumberLemmas.{number-lt}
use Rattle.svr_gate.proofs.Circuits.{Tells-same}
use Rattle.svr_gate.proofs.Vectors.{GivesNumber-same, GivesNumber-width, GivesNumber-self, GivesNumber-append, GivesNumber-replicate, Tells-bit}
use Rattle.svr_shape.specs.Shape.{fill_of}

pub extend_value : (signed : Bool) (w m n : ℕ) → 1 ≤ m → m ≤ w → n < 2 ^ m → n + 2 ^ m * cond (fill_of signed m n) (2 ^ (w - m) - 1) 0 ≡ extend_of signed w m n
extend_value false w m n low h lt = omega arith ∙ sym (mod-eq_of_lt (omega (arith, pow_mono {i = m} {j = w} h)))
extend_value true w m n low h lt =
    let p = pow_mono {i = m} {j = w} h in
    let parts : 2 ^ w ≡ 2 ^ m * 2 ^ (w - m) = ap (λ k. 2 ^ k) (omega arith) ∙ pow-add 2 m (w - m) in
    ⊎_elim
    (λ (q : n < 2 ^ (m - 1)). rw (lt-ltb n (2 ^ (m - 1)) q) (omega arith ∙ sym (mod-eq_of_lt (omega (arith, p)))))
    (λ (q : 2 ^ (m - 1) ≤ n).
    rw (le-ltb n (2 ^ (m - 1)) q)
    (high (2 ^ w) (2 ^ m) (2 ^ (w - m)) n lt parts (pow_pos (w - m)) p
    ∙ ap (λ k. 2 ^ w - suc k) (sym (mod-eq_of_lt (omega (arith, p))))))
    (cases_lt n (2 ^ (m - 1))) where
      high : (a b k n : ℕ) → n < b → a ≡ b * k → 0 < k → b ≤ a → n + b * (k - 1) ≡ a - suc (b - suc n)
      high a b k n lt e pos le =
          let one : k ≡ k - 1 + 1 = omega arith in
          omega (arith, e, ap (λ j. b * j) one)

pub extended : (c : Circuit) (x : List Lit) (fill : Lit) (signed : Bool) (w : ℕ) → 1 ≤ length x → length x ≤ w → AreWithin c.vars x → Tells c fill (λ a. fill_of signed (length x) (number a x))
    → GivesNumber c (x ++ replicate (w - length x) fill) w (λ a. extend_of signed w (length x) (number a x))
extended c x fill signed w low h within t =
    GivesNumber-same (λ a. extend_of signed w (length x) (number a x))
    (GivesNumber-width (omega arith) (GivesNumber-append (GivesNumber-self c x within) (GivesNumber-replicate (w - length x) t)))
    (λ a m. extend_value signed w (length x) (number a x) low h (number-lt a x))

-- the top bit of a number is its sign
top_value : (w n : ℕ) → n < 2 ^ suc w → ◌≡◌ (eqb (n / 2 ^ w % 2) 1) (not (ltb n (2 ^ w)))
top_value w n lt =
    ⊎_elim
    (λ (q : n < 2 ^ w).
    let z : n / 2 ^ w ≡ 0 = div-eq_of_lt q in
    ap (λ x. eqb (x % 2) 1) z ∙ sym (ap not (lt-ltb n (2 ^ w) q)))
    (λ (q : 2 ^ w ≤ n).
    let s : n ≡ 1 * 2 ^ w + (n - 2 ^ w) = omega arith in
    let o : n / 2 ^ w ≡ 1 = ap (λ x. x / 2 ^ w) s ∙ div-mul-add 1 (2 ^ w) (n - 2 ^ w) (omega (arith, pow-suc 2 w)) in
    ap (λ x. eqb (x % 2) 1) o ∙ sym (ap not (le-ltb n (2 ^ w) q)))
    (cases_lt n (2 ^ w))

pub sign_tells : (c : Circuit) (x : List Lit) (d : Lit) → 1 ≤ length x → AreWithin c.vars x → Tells c (get_or x (length x - 1) d) (λ a. fill_of true (length x) (number a x))
sign_tells c x d low w =
    Tells-same (λ a. fill_of true (length x) (number a x)) (Tells-bit (length x - 1) d (omega arith) (GivesNumber-self c x w))
    (λ a m. top_value (length x - 1) (number a x) (subst (λ (k : ℕ). number a x < 2 ^ k) (omega arith) (number-lt a x)))

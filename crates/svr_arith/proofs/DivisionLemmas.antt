-- Long division, the highest bit first
use Rattle.std.proofs.Common.{◌≡◌, ℕ, ◌+◌, ◌-◌, ◌*◌, ◌/◌, ◌%◌, ◌^◌, ◌<◌, ◌≤◌, Bool, true, false, cond, not, ◌&&◌, leb, eqb, List, [], ◌∷◌, ◌++◌, length, take, drop, get_or, refl, sym, ◌∙◌, ap, subst, arith, ⊎_elim}
use Rattle.std.proofs.lemmas.Bool.{cases_lt, cases_eq, le-leb, lt-leb, eq-eqb, ne_eqb}
use Rattle.std.proofs.lemmas.Nat.{div-mul-add, mod-mul-add, mod_low, mod_below}
use Rattle.std.proofs.lemmas.List.{length-take-le, drop_more, drop_all, length_push, get_or_push, get_or_append_left}
use Rattle.std.proofs.lemmas.List.Elements.{All-cons, All-nil}
use Rattle.std.proofs.Math.Nat.{mod-add-div, mod-eq_of_lt, div-eq_of_lt}
use Rattle.svr_chain.specs.declared.clause.Lit.{Lit}
use Rattle.svr_chain.specs.Clauses.{AreWithin, IsWithin, flip}
use Rattle.svr_chain.specs.Valuations.{lit_value, Meets}
use Rattle.svr_gate.specs.Numbers.{bit, number}
use Rattle.svr_gate.specs.Gates.{table_value}
use Rattle.svr_gate.specs.Circuit.{Circuit, Extends, Tells, GivesNumber}
use Rattle.svr_gate.proofs.NumberLemmas.{number-append, number-take, number-cons, number-nil, number-lt, number_parts, bit-le, lit_value-flip}
use Rattle.svr_gate.proofs.Circuits.{AreWithin-later, Tells-later, Tells-same}
use Rattle.svr_gate.proofs.Vectors.{GivesNumber-take, GivesNumber-same}
use Rattle.svr_gate.proofs.TableLemmas.{Tells-both}
use Rattle.svr_arith.proofs.OrderLemmas.{top_bit}
use Rattle.svr_arith.specs.Division.{TellHighZeros, Divides}

-- the highest of n + 1 literals
top_tells : {c : Circuit} {v : List Lit} {f : (ℕ → Bool) → ℕ} (n : ℕ) (d : Lit) → GivesNumber c v (n + 1) f → Tells c (get_or v n d) (λ a. leb (2 ^ n) (f a))
top_tells {c} {v} {f} n d g = record { within = g.within n d (omega (arith, g.len)); value = λ a m. top_bit a v n d g.len ∙ ap (leb (2 ^ n)) (g.value a m) }

-- the difference's highest bit, and its low bits
difference_top : (m n k : ℕ) → n < k → leb k (m + (k - n)) ≡ leb n m
difference_top m n k h =
    ⊎_elim
    (λ (q : m < n). lt-leb k (m + (k - n)) (omega arith) ∙ sym (lt-leb n m q))
    (λ (q : n ≤ m). le-leb k (m + (k - n)) (omega arith) ∙ sym (le-leb n m q))
    (cases_lt m n)

difference_low : (fits : Bool) (m n k : ℕ) → n < 2 ^ k → m < 2 ^ k → cond (fits && leb n m) ((m + (2 ^ k - n)) % 2 ^ k) m ≡ cond (fits && leb n m) (m - n) m
difference_low false m n k h g = refl
difference_low true m n k h g =
    ⊎_elim
    (λ (q : m < n). rw (lt-leb n m q) refl)
    (λ (q : n ≤ m). ap (λ x. cond (leb n m) x m) (ap (λ x. x % 2 ^ k) (omega arith) ∙ mod_low 1 k (m - n) (omega arith)))
    (cases_lt m n)

-- one step, from the circuit of the difference by that of the test to that of the choice
module _ (c d e : Circuit) (v x y left : List Lit) (fits goes dv : Lit) (len : length x ≡ length y) (cd : Extends c d) (de : Extends d e)
    (g : GivesNumber c v (length x + 1) (λ a. number a x + (2 ^ length x - number a y)))
    (t : Tells d goes (λ a. table_value 0x8 (number a (fits ∷ get_or v (length x) dv ∷ [])))) where
  y_small : (a : ℕ → Bool) → number a y < 2 ^ length x
  y_small a = subst (λ (k : ℕ). number a y < 2 ^ k) (sym len) (number-lt a y)

  pub goes_tells : Tells d goes (λ a. lit_value a fits && leb (number a y) (number a x))
  goes_tells =
      Tells-same (λ a. lit_value a fits && leb (number a y) (number a x)) (Tells-both fits (get_or v (length x) dv) t)
      (λ a m. ap (λ b. lit_value a fits && b) ((top_tells (length x) dv g).value a (cd.keeps a m) ∙ difference_top (number a x) (number a y) (2 ^ length x) (y_small a)))

  pub left_gives : GivesNumber e left (length x) (λ a. cond (lit_value a goes) (number a (take (length x) v)) (number a x))
      → GivesNumber e left (length x) (λ a. cond (lit_value a fits && leb (number a y) (number a x)) (number a x - number a y) (number a x))
  left_gives r =
      GivesNumber-same (λ a. cond (lit_value a fits && leb (number a y) (number a x)) (number a x - number a y) (number a x)) r
      (λ a m.
      let md = de.keeps a m in
      let low = GivesNumber-take (length x) (omega arith) g in
      ap (λ b. cond b (number a (take (length x) v)) (number a x)) (goes_tells.value a md)
      ∙ ap (λ n. cond (lit_value a fits && leb (number a y) (number a x)) n (number a x)) (low.value a (cd.keeps a md))
      ∙ difference_low (lit_value a fits) (number a x) (number a y) (length x) (y_small a) (number-lt a x))

-- what one bit more does to quotient and rest
quotient_more : (m y b : ℕ) → 0 < y → b ≤ 1 → ((b + 2 * m) / y ≡ cond (leb y (b + 2 * (m % y))) 1 0 + 2 * (m / y)) × ((b + 2 * m) % y ≡ cond (leb y (b + 2 * (m % y))) (b + 2 * (m % y) - y) (b + 2 * (m % y)))
quotient_more m y b some h =
    let r = mod_below m y some in
    let s = mod-add-div m y in
    ⊎_elim
    (λ (q : b + 2 * (m % y) < y).
    let e : b + 2 * m ≡ (2 * (m / y)) * y + (b + 2 * (m % y)) = omega (arith, s) in
    rw (lt-leb y (b + 2 * (m % y)) q) (ap (λ n. n / y) e ∙ div-mul-add (2 * (m / y)) y (b + 2 * (m % y)) q ∙ omega arith, ap (λ n. n % y) e ∙ mod-mul-add (2 * (m / y)) y (b + 2 * (m % y)) q))
    (λ (q : y ≤ b + 2 * (m % y)).
    let e : b + 2 * m ≡ (1 + 2 * (m / y)) * y + (b + 2 * (m % y) - y) = omega (arith, s) in
    rw (le-leb y (b + 2 * (m % y)) q) (ap (λ n. n / y) e ∙ div-mul-add (1 + 2 * (m / y)) y (b + 2 * (m % y) - y) (omega arith), ap (λ n. n % y) e ∙ mod-mul-add (1 + 2 * (m / y)) y (b + 2 * (m % y) - y) (omega arith)))
    (cases_lt (b + 2 * (m % y)) y)

times : (k n : ℕ) → (n ≡ 0 → ⊥) → k ≤ k * n
times k n q = grind arith

-- a number below k against one whose part below k is l and whose part above is h
module _ (n l h k r : ℕ) (parts : n ≡ l + k * h) (small : r < k) where
  parted_test : (eqb h 0 && leb l r) ≡ leb n r
  parted_test =
      ⊎_elim
      (λ (z : h ≡ 0).
      let e : l ≡ n = omega (arith, parts, ap (λ j. k * j) z) in
      ap (λ b. b && leb l r) (eq-eqb h 0 z) ∙ ap (λ j. leb j r) e)
      (λ (z : h ≡ 0 → ⊥). ap (λ b. b && leb l r) (ne_eqb h 0 z) ∙ sym (lt-leb n r (omega (arith, parts, times k h z))))
      (cases_eq h 0)

  parted_rest : cond (eqb h 0 && leb l r) (r - l) r ≡ cond (leb n r) (r - n) r
  parted_rest =
      ⊎_elim
      (λ (z : h ≡ 0).
      let e : l ≡ n = omega (arith, parts, ap (λ j. k * j) z) in
      ap (λ b. cond (b && leb l r) (r - l) r) (eq-eqb h 0 z) ∙ ap (λ j. cond (leb j r) (r - j) r) e)
      (λ (z : h ≡ 0 → ⊥). ap (λ b. cond (b && leb l r) (r - l) r) (ne_eqb h 0 z) ∙ sym (ap (λ b. cond b (r - n) r) (lt-leb n r (omega (arith, parts, times k h z)))))
      (cases_eq h 0)

pub divides_none : (c : Circuit) (x y : List Lit) → Divides c [] [] 0 (λ a. number a (drop (length x - 0) x)) (λ a. number a y)
divides_none c x y = record {
  quotient_within = All-nil (IsWithin c.vars);
  quotient_len = refl;
  rest_within = All-nil (IsWithin c.vars);
  rest_len = refl;
  value = λ a m some.
      let e : number a (drop (length x - 0) x) ≡ 0 = ap (number a) (drop_all (length x - 0) x (omega arith)) ∙ number-nil a in
      (number-nil a ∙ sym (ap (λ n. n / number a y) e ∙ div-eq_of_lt some), number-nil a ∙ sym (ap (λ n. n % number a y) e ∙ mod-eq_of_lt some));
}

-- literals that are false above a place
pub zero_more : (a : ℕ → Bool) (y : List Lit) (j : ℕ) (d : Lit) → j < length y → number a (drop (j + 1) y) ≡ 0 → lit_value a (get_or y j d) ≡ false → number a (drop j y) ≡ 0
zero_more a y j d h z f =
    ap (number a) (drop_more y j d h) ∙ number-cons a (get_or y j d) (drop (j + 1) y)
    ∙ ap (λ (b : Bool). bit b + 2 * number a (drop (j + 1) y)) f
    ∙ ap (λ k. 0 + 2 * k) z

pub zeros_above : (a : ℕ → Bool) (y : List Lit) (bits : ℕ) → bits ≤ length y → number a (drop bits y) ≡ 0 → number a y < 2 ^ bits
zeros_above a y bits h z =
    let e : number a (take bits y) ≡ number a y = omega (arith, number_parts a bits y h, ap (λ j. 2 ^ bits * j) z) in
    let s : number a (take bits y) < 2 ^ bits = subst (λ (k : ℕ). number a (take bits y) < 2 ^ k) (length-take-le bits y h) (number-lt a (take bits y)) in
    subst (λ (k : ℕ). k < 2 ^ bits) e s

-- the low bits of a number that takes no more, and zeros
pub short_value : {c : Circuit} (a : ℕ → Bool) (x zs : List Lit) (bits n : ℕ) → Meets a c.clauses → GivesNumber c zs n (λ a. 0) → bits ≤ length x → number a x < 2 ^ bits
    → number a (take bits x ++ zs) ≡ number a x
short_value {c} a x zs bits n m g h s =
    let z : number a (take bits x ++ zs) ≡ number a (take bits x) = omega (arith, number-append a (take bits x) zs, ap (λ k. 2 ^ length (take bits x) * k) (g.value a m)) in
    z ∙ number-take a bits x h ∙ mod-eq_of_lt s

-- a rest takes no more bits than the divisor
pub divides_short : {c d : Circuit} {q left rest : List Lit} {w : ℕ} {m n : (ℕ → Bool) → ℕ} (bits : ℕ) → Extends c d → Divides c q left w m n
    → ((a : ℕ → Bool) → Meets a c.clauses → n a < 2 ^ bits)
    → AreWithin d.vars rest → length rest ≡ length left
    → ((a : ℕ → Bool) → Meets a d.clauses → number a left < 2 ^ bits → number a rest ≡ number a left)
    → Divides d q rest w m n
divides_short {c} {d} {q} {left} {rest} {w} {m} {n} bits e v s within len value = record {
  quotient_within = AreWithin-later {c = c} {d = d} q e v.quotient_within;
  quotient_len = v.quotient_len;
  rest_within = within;
  rest_len = len ∙ v.rest_len;
  value = λ a h some.
      let mc = e.keeps a h in
      let old = v.value a mc some in
      let below : m a % n a < n a = mod_below (m a) (n a) some in
      let small : m a % n a < 2 ^ bits = omega (arith, below, s a mc) in
      (old.0, value a h (subst (λ (k : ℕ). k < 2 ^ bits) (sym old.1) small) ∙ old.1);
}

bit-cond : (b : Bool) → bit b ≡ cond b 1 0
bit-cond true = refl
bit-cond false = refl

module _ (c d : Circuit) (x y quotient rest left : List Lit) (fits goes dx : Lit) (i : ℕ) where
  pub divides_step : Extends c d → i < length x → length x ≡ length y
      → Divides c quotient rest i (λ a. number a (drop (length x - i) x)) (λ a. number a y)
      → Tells c fits (λ a. eqb (number a (drop (length y - (length x - 1 - i)) y)) 0)
      → Tells d goes (λ a. lit_value a fits && leb (number a (take (i + 1) y)) (number a (get_or x (length x - 1 - i) dx ∷ rest)))
      → GivesNumber d left (i + 1) (λ a. cond (lit_value a fits && leb (number a (take (i + 1) y)) (number a (get_or x (length x - 1 - i) dx ∷ rest))) (number a (get_or x (length x - 1 - i) dx ∷ rest) - number a (take (i + 1) y)) (number a (get_or x (length x - 1 - i) dx ∷ rest)))
      → Divides d (goes ∷ quotient) left (i + 1) (λ a. number a (drop (length x - (i + 1)) x)) (λ a. number a y)
  divides_step e h len v ft gt lt = record {
    quotient_within = All-cons (IsWithin d.vars) goes quotient gt.within (AreWithin-later {c = c} {d = d} quotient e v.quotient_within);
    quotient_len = omega (arith, v.quotient_len);
    rest_within = lt.within;
    rest_len = lt.len;
    value = λ a m some.
        let mc = e.keeps a m in
        let old = v.value a mc some in
        let j = length x - 1 - i in
        let xl = get_or x j dx in
        let b = bit (lit_value a xl) in
        let n = number a y in
        let high = number a (drop (length x - i) x) in
        let dividend : number a (drop (length x - (i + 1)) x) ≡ b + 2 * high
        = ap (number a) (ap (λ k. drop k x) (omega arith) ∙ drop_more x j dx (omega arith) ∙ ap (λ k. xl ∷ drop k x) (omega arith)) ∙ number-cons a xl (drop (length x - i) x) in
        let r = b + 2 * (high % n) in
        let r_is : number a (xl ∷ rest) ≡ r = number-cons a xl rest ∙ ap (λ k. b + 2 * k) old.1 in
        let r_small : number a (xl ∷ rest) < 2 ^ (i + 1) = subst (λ (k : ℕ). number a (xl ∷ rest) < 2 ^ k) (omega (arith, v.rest_len)) (number-lt a (xl ∷ rest)) in
        let l = number a (take (i + 1) y) in
        let u = number a (drop (i + 1) y) in
        let parts : n ≡ l + 2 ^ (i + 1) * u = number_parts a (i + 1) y (omega arith) in
        let f : lit_value a fits ≡ eqb u 0 = ft.value a mc ∙ ap (λ k. eqb (number a (drop k y)) 0) (omega arith) in
        let q = quotient_more high n b some (bit-le (lit_value a xl)) in
        let g : lit_value a goes ≡ leb n r = gt.value a m ∙ ap (λ s. s && leb l (number a (xl ∷ rest))) f ∙ parted_test n l u (2 ^ (i + 1)) (number a (xl ∷ rest)) parts r_small ∙ ap (leb n) r_is in
        let s : number a left ≡ cond (leb n r) (r - n) r
        = lt.value a m ∙ ap (λ s. cond (s && leb l (number a (xl ∷ rest))) (number a (xl ∷ rest) - l) (number a (xl ∷ rest))) f
        ∙ parted_rest n l u (2 ^ (i + 1)) (number a (xl ∷ rest)) parts r_small
        ∙ ap (λ k. cond (leb n k) (k - n) k) r_is in (
          number-cons a goes quotient
              ∙ ap (λ k. bit (lit_value a goes) + 2 * k) old.0
              ∙ ap (λ t. bit t + 2 * (high / n)) g
              ∙ ap (λ k. k + 2 * (high / n)) (bit-cond (leb n r))
              ∙ sym (ap (λ k. k / n) dividend ∙ q.0),
          s ∙ sym (ap (λ k. k % n) dividend ∙ q.1),
        );
  }

-- tests of the high parts of the divisor
pub high_zero_none : {c : Circuit} {l : Lit} (y : List Lit) → Tells c l (λ a. true) → Tells c l (λ a. eqb (number a (drop (length y - 0) y)) 0)
high_zero_none {c} {l} y t =
    Tells-same (λ a. eqb (number a (drop (length y - 0) y)) 0) t (λ a m. sym (eq-eqb (number a (drop (length y - 0) y)) 0 (ap (number a) (drop_all (length y - 0) y (omega arith)) ∙ number-nil a)))

pub high_zeros_none : {c : Circuit} {l : Lit} (y : List Lit) → Tells c l (λ a. true) → TellHighZeros c ([] ++ l ∷ []) y
high_zeros_none {c} {l} y t = λ k d h. let z : k ≡ 0 = omega arith in rw z (high_zero_none y t)

high_zero_more : (p s : Bool) (m n : ℕ) → s ≡ eqb m 0 → n ≡ bit p + 2 * m → (s && not p) ≡ eqb n 0
high_zero_more true s m n e f = and_false s ∙ sym (ne_eqb n 0 (λ z. omega arith)) where
  and_false : (b : Bool) → (b && false) ≡ false
  and_false true = refl
  and_false false = refl
high_zero_more false s m n e f = and_true s ∙ e ∙ ⊎_elim (λ (z : m ≡ 0). eq-eqb m 0 z ∙ sym (eq-eqb n 0 (omega arith))) (λ (z : m ≡ 0 → ⊥). ne_eqb m 0 z ∙ sym (ne_eqb n 0 (λ k. z (omega arith)))) (cases_eq m 0) where
  and_true : (b : Bool) → (b && true) ≡ b
  and_true true = refl
  and_true false = refl

module _ (c d : Circuit) (y v : List Lit) (old new dy : Lit) (i : ℕ) (e : Extends c d) (h : i < length y) (len : length v ≡ i + 1) where
  pub high_zero_step : Tells c old (λ a. eqb (number a (drop (length y - i) y)) 0)
      → Tells d new (λ a. table_value 0x8 (number a (old ∷ flip (get_or y (length y - 1 - i) dy) ∷ [])))
      → Tells d new (λ a. eqb (number a (drop (length y - (i + 1)) y)) 0)
  high_zero_step t u =
      let j = length y - 1 - i in
      Tells-same (λ a. eqb (number a (drop (length y - (i + 1)) y)) 0) (Tells-both old (flip (get_or y j dy)) u)
      (λ a m.
      let more : number a (drop (length y - (i + 1)) y) ≡ bit (lit_value a (get_or y j dy)) + 2 * number a (drop (length y - i) y)
      = ap (number a) (ap (λ k. drop k y) (omega arith) ∙ drop_more y j dy (omega arith) ∙ ap (λ k. get_or y j dy ∷ drop k y) (omega arith)) ∙ number-cons a (get_or y j dy) (drop (length y - i) y) in
      ap (λ b. lit_value a old && b) (lit_value-flip a (get_or y j dy))
      ∙ high_zero_more (lit_value a (get_or y j dy)) (lit_value a old) (number a (drop (length y - i) y)) (number a (drop (length y - (i + 1)) y)) (t.value a (e.keeps a m)) more)

  pub high_zeros_push : TellHighZeros c v y → Tells d new (λ a. eqb (number a (drop (length y - (i + 1)) y)) 0) → TellHighZeros d (v ++ new ∷ []) y
  high_zeros_push t u = λ k dk hk.
      ⊎_elim
      (λ (q : k < length v). rw (get_or_append_left v (new ∷ []) dk k q) (Tells-later e (t k dk q)))
      (λ (q : length v ≤ k).
      let z : k ≡ i + 1 = omega (arith, len, length_push v new) in
      rw (z, get_or_push v new dk (i + 1) len) u)
      (cases_lt k (length v))

guarded : (n v w : ℕ) → (0 < n → v ≡ w) → cond (not (eqb n 0)) v 0 ≡ cond (eqb n 0) 0 w
guarded n v w h =
    ⊎_elim
    (λ (z : n ≡ 0). rw (eq-eqb n 0 z) refl)
    (λ (z : n ≡ 0 → ⊥). rw (ne_eqb n 0 z) (h (omega arith)))
    (cases_eq n 0)

-- the results, each 0 where the divisor is
module _ (c d : Circuit) (x y quotient rest : List Lit) (some : Lit) (v : Divides c quotient rest (length x) (λ a. number a x) (λ a. number a y)) (cd : Extends c d) (t : Tells c some (λ a. not (eqb (number a y) 0))) where
  pub quotient_gives : {r : List Lit} → GivesNumber d r (length quotient) (λ a. cond (lit_value a some) (number a quotient) 0) → GivesNumber d r (length x) (λ a. cond (eqb (number a y) 0) 0 ((number a x / number a y) % 2 ^ length x))
  quotient_gives {r} g =
      GivesNumber-same (λ a. cond (eqb (number a y) 0) 0 ((number a x / number a y) % 2 ^ length x))
      (subst (λ (k : ℕ). GivesNumber d r k (λ a. cond (lit_value a some) (number a quotient) 0)) v.quotient_len g)
      (λ a m.
      ap (λ b. cond b (number a quotient) 0) (t.value a (cd.keeps a m))
      ∙ guarded (number a y) (number a quotient) ((number a x / number a y) % 2 ^ length x)
      (λ h. let e = (v.value a (cd.keeps a m) h).0 in e ∙ sym (mod-eq_of_lt (subst (λ (n : ℕ). n < 2 ^ length x) e (subst (λ (k : ℕ). number a quotient < 2 ^ k) v.quotient_len (number-lt a quotient))))))

  pub rest_gives : {r : List Lit} → GivesNumber d r (length rest) (λ a. cond (lit_value a some) (number a rest) 0) → GivesNumber d r (length x) (λ a. cond (eqb (number a y) 0) 0 ((number a x % number a y) % 2 ^ length x))
  rest_gives {r} g =
      GivesNumber-same (λ a. cond (eqb (number a y) 0) 0 ((number a x % number a y) % 2 ^ length x))
      (subst (λ (k : ℕ). GivesNumber d r k (λ a. cond (lit_value a some) (number a rest) 0)) v.rest_len g)
      (λ a m.
      ap (λ b. cond b (number a rest) 0) (t.value a (cd.keeps a m))
      ∙ guarded (number a y) (number a rest) ((number a x % number a y) % 2 ^ length x)
      (λ h. let e = (v.value a (cd.keeps a m) h).1 in e ∙ sym (mod-eq_of_lt (subst (λ (n : ℕ). n < 2 ^ length x) e (subst (λ (k : ℕ). number a rest < 2 ^ k) v.rest_len (number-lt a rest))))))

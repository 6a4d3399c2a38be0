-- Comparisons, place by place
use Rattle.std.proofs.Common.{◌≡◌, ℕ, suc, ◌+◌, ◌*◌, ◌-◌, ◌^◌, ◌<◌, ◌≤◌, Bool, true, false, cond, not, ◌&&◌, ltb, leb, eqb, List, [], ◌∷◌, length, take, get_or, refl, sym, ◌∙◌, ap, arith, ⊎_elim, pos, negsuc, add-one}
use Rattle.std.specs.Prelude.{int_lt}
use Rattle.std.proofs.lemmas.Bool.{cases_lt, cases_eq, lt-ltb, le-ltb, lt-leb, le-leb, eq-eqb, ne_eqb}
use Rattle.std.proofs.lemmas.List.{take_all}
use Rattle.std.proofs.lemmas.Nat.{same_from_place}
use Rattle.std.proofs.Math.Nat.{pow-suc}
use Rattle.svr_chain.specs.declared.clause.Lit.{Lit}
use Rattle.svr_chain.specs.Clauses.{flip}
use Rattle.svr_chain.specs.Valuations.{lit_value}
use Rattle.svr_gate.specs.Numbers.{bit, number}
use Rattle.svr_gate.specs.Gates.{table_value}
use Rattle.svr_gate.specs.Circuit.{Circuit, Extends, Tells}
use Rattle.svr_gate.proofs.NumberLemmas.{lit_value-flip, number-three, number_more, number-take-lt, bit-le}
use Rattle.svr_gate.proofs.Circuits.{Tells-same}
use Rattle.svr_gate.proofs.TableLemmas.{agree_value}
use Rattle.svr_num.specs.Num.{less_of}
use Rattle.svr_arith.specs.Order.{is_below}

carry_below : (p q low : Bool) → table_value 0xe8 (bit (not p) + 2 * (bit q + 2 * bit low)) ≡ is_below p q low
carry_below true true true = refl
carry_below true true false = refl
carry_below true false true = refl
carry_below true false false = refl
carry_below false true true = refl
carry_below false true false = refl
carry_below false false true = refl
carry_below false false false = refl

-- the carry of q + ~p and of the bits below
pub bit_below_tells : {c : Circuit} {l : Lit} (p q low : Lit) → Tells c l (λ a. table_value 0xe8 (number a (flip p ∷ q ∷ low ∷ []))) → Tells c l (λ a. is_below (lit_value a p) (lit_value a q) (lit_value a low))
bit_below_tells p q low t =
    Tells-same (λ a. is_below (lit_value a p) (lit_value a q) (lit_value a low)) t
    (λ a m.
    ap (table_value 0xe8) (number-three a (flip p) q low ∙ ap (λ b. bit b + 2 * (bit (lit_value a q) + 2 * bit (lit_value a low))) (lit_value-flip a p))
    ∙ carry_below (lit_value a p) (lit_value a q) (lit_value a low))

-- a place more at the high end
place_below : (m n k : ℕ) (p q : Bool) → m < k → n < k → is_below p q (ltb m n) ≡ ltb (m + k * bit p) (n + k * bit q)
place_below m n k true true hm hn = ⊎_elim (λ (h : m < n). lt-ltb m n h ∙ sym (lt-ltb (m + k * 1) (n + k * 1) (omega arith))) (λ (h : n ≤ m). le-ltb m n h ∙ sym (le-ltb (m + k * 1) (n + k * 1) (omega arith))) (cases_lt m n)
place_below m n k true false hm hn = sym (le-ltb (m + k * 1) (n + k * 0) (omega arith))
place_below m n k false true hm hn = sym (lt-ltb (m + k * 0) (n + k * 1) (omega arith))
place_below m n k false false hm hn = ⊎_elim (λ (h : m < n). lt-ltb m n h ∙ sym (lt-ltb (m + k * 0) (n + k * 0) (omega arith))) (λ (h : n ≤ m). le-ltb m n h ∙ sym (le-ltb (m + k * 0) (n + k * 0) (omega arith))) (cases_lt m n)

module _ (c d : Circuit) (x y : List Lit) (old new dx : Lit) (i : ℕ) (e : Extends c d) (hx : i < length x) (hy : i < length y) where
  pub below_step : Tells c old (λ a. ltb (number a (take i x)) (number a (take i y)))
      → Tells d new (λ a. is_below (lit_value a (get_or x i dx)) (lit_value a (get_or y i dx)) (lit_value a old))
      → Tells d new (λ a. ltb (number a (take (i + 1) x)) (number a (take (i + 1) y)))
  below_step t u =
      Tells-same (λ a. ltb (number a (take (i + 1) x)) (number a (take (i + 1) y))) u
      (λ a m.
      let p = lit_value a (get_or x i dx) in
      let q = lit_value a (get_or y i dx) in
      ap (is_below p q) (t.value a (e.keeps a m))
      ∙ place_below (number a (take i x)) (number a (take i y)) (2 ^ i) p q (number-take-lt a i x (omega arith)) (number-take-lt a i y (omega arith))
      ∙ ap (λ n. ltb n (number a (take i y) + 2 ^ i * bit q)) (sym (number_more a x i dx hx))
      ∙ ap (λ n. ltb (number a (take (i + 1) x)) n) (sym (number_more a y i dx hy)))

  pub equal_step : Tells c old (λ a. eqb (number a (take i x)) (number a (take i y)))
      → Tells d new (λ a. table_value 0x82 (number a (old ∷ get_or x i dx ∷ get_or y i dx ∷ [])))
      → Tells d new (λ a. eqb (number a (take (i + 1) x)) (number a (take (i + 1) y)))
  equal_step t u =
      Tells-same (λ a. eqb (number a (take (i + 1) x)) (number a (take (i + 1) y))) u
      (λ a m.
      let p = lit_value a (get_or x i dx) in
      let q = lit_value a (get_or y i dx) in
      ap (table_value 0x82) (number-three a old (get_or x i dx) (get_or y i dx))
      ∙ agree_value (lit_value a old) p q
      ∙ ap (λ b. b && cond p q (not q)) (t.value a (e.keeps a m))
      ∙ ap (λ b. eqb (number a (take i x)) (number a (take i y)) && b) (same_bits p q)
      ∙ places_equal (number a (take i x)) (number a (take i y)) (2 ^ i) (bit p) (bit q) (number-take-lt a i x (omega arith)) (number-take-lt a i y (omega arith)) (bit-le p) (bit-le q)
      ∙ ap (λ n. eqb n (number a (take i y) + 2 ^ i * bit q)) (sym (number_more a x i dx hx))
      ∙ ap (λ n. eqb (number a (take (i + 1) x)) n) (sym (number_more a y i dx hy))) where
        same_bits : (p q : Bool) → cond p q (not q) ≡ eqb (bit p) (bit q)
        same_bits true true = refl
        same_bits true false = refl
        same_bits false true = refl
        same_bits false false = refl

        places_equal : (m n k p q : ℕ) → m < k → n < k → p ≤ 1 → q ≤ 1 → (eqb m n && eqb p q) ≡ eqb (m + k * p) (n + k * q)
        places_equal m n k p q hm hn hp hq =
            ⊎_elim
            (λ (e : m ≡ n).
            ap (λ b. b && eqb p q) (eq-eqb m n e)
            ∙ ⊎_elim
            (λ (f : p ≡ q). eq-eqb p q f ∙ sym (eq-eqb (m + k * p) (n + k * q) (ap (λ x. x + k * p) e ∙ ap (λ x. n + k * x) f)))
            (λ (f : p ≡ q → ⊥). ne_eqb p q f ∙ sym (ne_eqb (m + k * p) (n + k * q) (λ h. f (same_from_place p m q n k hm hn (omega (arith, h))).0)))
            (cases_eq p q))
            (λ (e : m ≡ n → ⊥). ap (λ b. b && eqb p q) (ne_eqb m n e) ∙ sym (ne_eqb (m + k * p) (n + k * q) (λ h. e (same_from_place p m q n k hm hn (omega (arith, h))).1)))
            (cases_eq m n)

-- the highest bits change places where both have a sign
abbrev pub top_below : Bool → Bool → Bool → Bool → Bool
top_below signed p q low = cond signed (is_below q p low) (is_below p q low)

-- numbers of a bit more than k, h being 2^k
module _ (h w l m : ℕ) (e : w ≡ h * 2) (hl : l < h) (hm : m < h) where
  signed_below : (p q : Bool) → is_below q p (ltb l m)
      ≡ int_lt (cond (ltb (l + h * bit p) h) (pos (l + h * bit p)) (negsuc (w - suc (l + h * bit p)))) (cond (ltb (m + h * bit q) h) (pos (m + h * bit q)) (negsuc (w - suc (m + h * bit q))))
  signed_below true true =
      rw (le-ltb (l + h * 1) h (omega arith), le-ltb (m + h * 1) h (omega arith))
      (⊎_elim
      (λ (k : l < m). lt-ltb l m k ∙ sym (lt-ltb (w - suc (m + h * 1)) (w - suc (l + h * 1)) (omega arith)))
      (λ (k : m ≤ l). le-ltb l m k ∙ sym (le-ltb (w - suc (m + h * 1)) (w - suc (l + h * 1)) (omega arith)))
      (cases_lt l m))
  signed_below true false = rw (le-ltb (l + h * 1) h (omega arith), lt-ltb (m + h * 0) h (omega arith)) refl
  signed_below false true = rw (lt-ltb (l + h * 0) h (omega arith), le-ltb (m + h * 1) h (omega arith)) refl
  signed_below false false =
      rw (lt-ltb (l + h * 0) h (omega arith), lt-ltb (m + h * 0) h (omega arith))
      (⊎_elim
      (λ (k : l < m). lt-ltb l m k ∙ sym (lt-ltb (l + h * 0) (m + h * 0) (omega arith)))
      (λ (k : m ≤ l). le-ltb l m k ∙ sym (le-ltb (l + h * 0) (m + h * 0) (omega arith)))
      (cases_lt l m))

top_parts : (a : ℕ → Bool) (x : List Lit) (k : ℕ) (d : Lit) → length x ≡ k + 1 → number a x ≡ number a (take k x) + 2 ^ k * bit (lit_value a (get_or x k d))
top_parts a x k d l = ap (number a) (sym (take_all (k + 1) x (omega arith))) ∙ number_more a x k d (omega arith)

-- the highest bit tells whether the number is at least 2^k
pub top_bit : (a : ℕ → Bool) (v : List Lit) (k : ℕ) (d : Lit) → length v ≡ k + 1 → lit_value a (get_or v k d) ≡ leb (2 ^ k) (number a v)
top_bit a v k d len = by_bit (lit_value a (get_or v k d)) (number a (take k v)) (2 ^ k) (number a v) (number-take-lt a k v (omega arith)) (top_parts a v k d len) where
  by_bit : (b : Bool) (l h t : ℕ) → l < h → t ≡ l + h * bit b → b ≡ leb h t
  by_bit true l h t lt e = sym (le-leb h t (omega arith))
  by_bit false l h t lt e = sym (lt-leb h t (omega arith))

-- the highest bit last
pub less_top : (a : ℕ → Bool) (signed : Bool) (x y : List Lit) (k : ℕ) (d : Lit) → length x ≡ k + 1 → length y ≡ k + 1
    → top_below signed (lit_value a (get_or x k d)) (lit_value a (get_or y k d)) (ltb (number a (take k x)) (number a (take k y))) ≡ less_of signed (length x) (number a x) (number a y)
less_top a false x y k d lx ly =
    place_below (number a (take k x)) (number a (take k y)) (2 ^ k) (lit_value a (get_or x k d)) (lit_value a (get_or y k d)) (number-take-lt a k x (omega arith)) (number-take-lt a k y (omega arith))
    ∙ ap (λ n. ltb n (number a (take k y) + 2 ^ k * bit (lit_value a (get_or y k d)))) (sym (top_parts a x k d lx))
    ∙ ap (λ n. ltb (number a x) n) (sym (top_parts a y k d ly))
less_top a true x y k d lx ly =
    let two : 2 ^ length x ≡ 2 ^ k * 2 = ap (λ n. 2 ^ n) (lx ∙ add-one k) ∙ pow-suc 2 k in
    let one : length x - 1 ≡ k = omega arith in
    rw (one, top_parts a x k d lx, top_parts a y k d ly)
    (signed_below (2 ^ k) (2 ^ length x) (number a (take k x)) (number a (take k y)) two (number-take-lt a k x (omega arith)) (number-take-lt a k y (omega arith)) (lit_value a (get_or x k d)) (lit_value a (get_or y k d)))

pub less_tells : {c d : Circuit} {l : Lit} (signed : Bool) (x y : List Lit) (low dx : Lit) → 1 ≤ length x → length x ≡ length y → Extends c d
    → Tells c low (λ a. ltb (number a (take (length x - 1) x)) (number a (take (length x - 1) y)))
    → Tells d l (λ a. top_below signed (lit_value a (get_or x (length x - 1) dx)) (lit_value a (get_or y (length x - 1) dx)) (lit_value a low))
    → Tells d l (λ a. less_of signed (length x) (number a x) (number a y))
less_tells signed x y low dx some len e t u =
    Tells-same (λ a. less_of signed (length x) (number a x) (number a y)) u
    (λ a m.
    ap (top_below signed (lit_value a (get_or x (length x - 1) dx)) (lit_value a (get_or y (length x - 1) dx))) (t.value a (e.keeps a m))
    ∙ less_top a signed x y (length x - 1) dx (omega arith) (omega arith))

-- Reductions literal by literal, and as tests of the number of a vector. Crates above may cite these.
use Rattle.std.proofs.Common.{◌≡◌, ℕ, ◌+◌, ◌-◌, ◌*◌, ◌%◌, ◌^◌, ◌<◌, count_ones, Bool, true, false, cond, not, ◌&&◌, ◌||◌, eqb, List, [], ◌∷◌, length, map, take, get_or, sym, ◌∙◌, ap, refl, arith, ⊎_elim}
use Rattle.std.specs.List.{list_any, list_all, count_by}
use Rattle.std.proofs.lemmas.Bool.{cases_eq, eq-eqb, ne_eqb}
use Rattle.std.proofs.lemmas.List.Folds.{list_any_more, list_all_more}
use Rattle.std.proofs.lemmas.List.Sums.{sum_by_more}
use Rattle.std.proofs.lemmas.Simd.{ones-mask_l}
use lib.Lanes.{mask_l}
use Rattle.std.proofs.Math.Nat.{pow-suc}
use Rattle.svr_chain.specs.declared.clause.Lit.{Lit}
use Rattle.svr_chain.specs.Valuations.{lit_value}
use Rattle.svr_gate.specs.Numbers.{bit, number}
use Rattle.svr_gate.specs.Gates.{table_value}
use Rattle.svr_gate.specs.Circuit.{Circuit, Extends, Tells}
use Rattle.svr_gate.proofs.NumberLemmas.{number-nil, number-cons, number-lt}
use Rattle.svr_gate.proofs.Circuits.{Tells-same}
use Rattle.svr_gate.proofs.TableLemmas.{Tells-both, Tells-either, Tells-unequal}

odd_more : (m n : ℕ) (q : Bool) → n ≡ m + cond q 1 0 → cond (eqb (m % 2) 1) (not q) q ≡ eqb (n % 2) 1
odd_more m n true e =
    ⊎_elim
    (λ (h : m % 2 ≡ 1). ap (λ b. cond b false true) (eq-eqb (m % 2) 1 h) ∙ sym (ne_eqb (n % 2) 1 (λ k. omega (arith, h, k, e))))
    (λ (h : m % 2 ≡ 1 → ⊥). ap (λ b. cond b false true) (ne_eqb (m % 2) 1 h) ∙ sym (eq-eqb (n % 2) 1 (omega (arith, h, e))))
    (cases_eq (m % 2) 1)
odd_more m n false e =
    ⊎_elim
    (λ (h : m % 2 ≡ 1). ap (λ b. cond b true false) (eq-eqb (m % 2) 1 h) ∙ sym (eq-eqb (n % 2) 1 (omega (arith, h, e))))
    (λ (h : m % 2 ≡ 1 → ⊥). ap (λ b. cond b true false) (ne_eqb (m % 2) 1 h) ∙ sym (ne_eqb (n % 2) 1 (λ k. h (omega (arith, k, e)))))
    (cases_eq (m % 2) 1)

module _ (c d : Circuit) (x : List Lit) (old new dx : Lit) (i : ℕ) (e : Extends c d) (h : i < length x) where
  pub any_step : Tells c old (λ a. list_any (lit_value a) (take i x)) → Tells d new (λ a. table_value 0xe (number a (old ∷ get_or x i dx ∷ []))) → Tells d new (λ a. list_any (lit_value a) (take (i + 1) x))
  any_step t u =
      Tells-same (λ a. list_any (lit_value a) (take (i + 1) x)) (Tells-either old (get_or x i dx) u)
      (λ a m. ap (λ b. b || lit_value a (get_or x i dx)) (t.value a (e.keeps a m)) ∙ sym (list_any_more (lit_value a) x i dx h))

  pub all_step : Tells c old (λ a. list_all (lit_value a) (take i x)) → Tells d new (λ a. table_value 0x8 (number a (old ∷ get_or x i dx ∷ []))) → Tells d new (λ a. list_all (lit_value a) (take (i + 1) x))
  all_step t u =
      Tells-same (λ a. list_all (lit_value a) (take (i + 1) x)) (Tells-both old (get_or x i dx) u)
      (λ a m. ap (λ b. b && lit_value a (get_or x i dx)) (t.value a (e.keeps a m)) ∙ sym (list_all_more (lit_value a) x i dx h))

  pub odd_step : Tells c old (λ a. eqb (count_by (lit_value a) (take i x) % 2) 1) → Tells d new (λ a. table_value 0x6 (number a (old ∷ get_or x i dx ∷ []))) → Tells d new (λ a. eqb (count_by (lit_value a) (take (i + 1) x) % 2) 1)
  odd_step t u =
      Tells-same (λ a. eqb (count_by (lit_value a) (take (i + 1) x) % 2) 1) (Tells-unequal old (get_or x i dx) u)
      (λ a m.
      ap (λ b. cond b (not (lit_value a (get_or x i dx))) (lit_value a (get_or x i dx))) (t.value a (e.keeps a m))
      ∙ odd_more (count_by (lit_value a) (take i x)) (count_by (lit_value a) (take (i + 1) x)) (lit_value a (get_or x i dx)) (sum_by_more (λ l. cond (lit_value a l) 1 0) x i dx h))

-- some literal holds just where the number is not 0
pub any_number : (a : ℕ → Bool) (x : List Lit) → list_any (lit_value a) x ≡ not (eqb (number a x) 0)
any_number a [] = rw number-nil refl
any_number a (l ∷ ls) = by_first (lit_value a l) (list_any (lit_value a) ls) (number a ls) (number a (l ∷ ls)) (any_number a ls) (number-cons a l ls) where
  by_first : (p s : Bool) (m n : ℕ) → s ≡ not (eqb m 0) → n ≡ bit p + 2 * m → (p || s) ≡ not (eqb n 0)
  by_first true s m n e f = sym (ap not (ne_eqb n 0 (λ z. omega arith)))
  by_first false s m n e f =
      e ∙ ap not (⊎_elim (λ (z : m ≡ 0). eq-eqb m 0 z ∙ sym (eq-eqb n 0 (omega arith))) (λ (z : m ≡ 0 → ⊥). ne_eqb m 0 z ∙ sym (ne_eqb n 0 (λ k. z (omega arith)))) (cases_eq m 0))

-- each literal holds just where the number is the greatest of its width
pub all_number : (a : ℕ → Bool) (x : List Lit) → list_all (lit_value a) x ≡ eqb (number a x) (2 ^ length x - 1)
all_number a [] = rw number-nil refl
all_number a (l ∷ ls) = by_first (lit_value a l) (list_all (lit_value a) ls) (number a ls) (number a (l ∷ ls)) (2 ^ length ls) (all_number a ls) (number-cons a l ls) (number-lt a ls) ∙ ap (λ k. eqb (number a (l ∷ ls)) (k - 1)) (sym (pow-suc 2 (length ls))) where
  by_first : (p s : Bool) (m n k : ℕ) → s ≡ eqb m (k - 1) → n ≡ bit p + 2 * m → m < k → (p && s) ≡ eqb n (k * 2 - 1)
  by_first false s m n k e f lt = sym (ne_eqb n (k * 2 - 1) (λ z. omega arith))
  by_first true s m n k e f lt =
      e ∙ ⊎_elim (λ (z : m ≡ k - 1). eq-eqb m (k - 1) z ∙ sym (eq-eqb n (k * 2 - 1) (omega arith))) (λ (z : m ≡ k - 1 → ⊥). ne_eqb m (k - 1) z ∙ sym (ne_eqb n (k * 2 - 1) (λ j. z (omega arith)))) (cases_eq m (k - 1))

number_mask : (a : ℕ → Bool) (x : List Lit) → number a x ≡ mask_l (map (lit_value a) x)
number_mask a [] = number-nil a
number_mask a (l ∷ ls) = number-cons a l ls ∙ ap (λ k. bit (lit_value a l) + 2 * k) (number_mask a ls) ∙ ap (λ k. k + 2 * mask_l (map (lit_value a) ls)) (as_cond (lit_value a l)) where
  as_cond : (b : Bool) → bit b ≡ cond b 1 0
  as_cond true = refl
  as_cond false = refl

-- as many literals hold as the number has bits set
pub count_number : (a : ℕ → Bool) (x : List Lit) → count_by (lit_value a) x ≡ count_ones (number a x)
count_number a x = sym (ones-mask_l (lit_value a) x) ∙ ap count_ones (sym (number_mask a x))

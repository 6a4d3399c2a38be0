-- Ripple-carry adders, place by place
use Rattle.std.proofs.Common.{◌≡◌, ℕ, ◌+◌, ◌*◌, ◌^◌, ◌<◌, Bool, List, [], ◌∷◌, ◌++◌, length, take, get_or, refl, sym, ◌∙◌, ap, arith, add-one, subst}
use Rattle.std.proofs.lemmas.List.{length_push, take_at}
use Rattle.std.proofs.lemmas.List.Elements.{All-push, All-head, All-tail, All-take, All-contains, Contains-push}
use Rattle.std.proofs.Math.Nat.{pow-suc}
use Rattle.svr_chain.specs.declared.clause.Lit.{Lit}
use Rattle.svr_chain.specs.Clauses.{IsWithin, AreWithin}
use Rattle.svr_chain.specs.Valuations.{lit_value}
use Rattle.svr_gate.specs.Numbers.{bit, number}
use Rattle.svr_gate.specs.Gates.{table_value}
use Rattle.svr_gate.specs.Circuit.{Circuit, Extends, Tells, GivesNumber}
use Rattle.svr_gate.proofs.NumberLemmas.{number-nil, number-one, number-two, number-three, number-push, number_more}
use Rattle.svr_gate.proofs.Circuits.{AreWithin-later, AreWithin-one, AreWithin-two, IsWithin-later}
use Rattle.svr_gate.proofs.TableLemmas.{sum_value}

-- two gates make a full adder
pub full_adder : (c d : Circuit) (p q r low high : Lit) → Extends c d
    → Tells c low (λ a. table_value 0x96 (number a (p ∷ q ∷ r ∷ []))) → Tells d high (λ a. table_value 0xe8 (number a (p ∷ q ∷ r ∷ [])))
    → GivesNumber d (low ∷ high ∷ []) 2 (λ a. bit (lit_value a p) + bit (lit_value a q) + bit (lit_value a r))
full_adder c d p q r low high e l h = record {
  within = AreWithin-two low high (IsWithin-later {c = c} {d = d} low e l.within) h.within;
  len = refl;
  value = λ a m.
      number-two a low high
      ∙ ap (λ b. bit b + 2 * bit (lit_value a high)) (l.value a (e.keeps a m) ∙ ap (table_value 0x96) (number-three a p q r))
      ∙ ap (λ b. bit (table_value 0x96 (bit (lit_value a p) + 2 * (bit (lit_value a q) + 2 * bit (lit_value a r)))) + 2 * bit b) (h.value a m ∙ ap (table_value 0xe8) (number-three a p q r))
      ∙ sum_value (lit_value a p) (lit_value a q) (lit_value a r);
}

-- a list with one literal more
within_push : {n : ℕ} (ls : List Lit) (l : Lit) → AreWithin n (ls ++ l ∷ []) → AreWithin n ls
within_push {n} ls l w = subst (λ (v : List Lit). AreWithin n v) (take_at ls (l ∷ []) (length ls) refl) (All-take (IsWithin n) (length ls) (ls ++ l ∷ []) w)

pub within_last : {n : ℕ} (ls : List Lit) (l : Lit) → AreWithin n (ls ++ l ∷ []) → IsWithin n l
within_last {n} ls l w = All-contains (IsWithin n) (ls ++ l ∷ []) l w (Contains-push ls l)

-- one more place of the sum, where the last literal of what is there is the carry
pub ripple_step : (c d : Circuit) (x y sum : List Lit) (carry low high dx : Lit) (i : ℕ) (carry_in : (ℕ → Bool) → ℕ)
    → Extends c d → i < length x → i < length y
    → GivesNumber c (sum ++ carry ∷ []) (i + 1) (λ a. number a (take i x) + number a (take i y) + carry_in a)
    → GivesNumber d (low ∷ high ∷ []) 2 (λ a. bit (lit_value a (get_or x i dx)) + bit (lit_value a (get_or y i dx)) + bit (lit_value a carry))
    → GivesNumber d ((sum ++ low ∷ []) ++ high ∷ []) (i + 1 + 1) (λ a. number a (take (i + 1) x) + number a (take (i + 1) y) + carry_in a)
ripple_step c d x y sum carry low high dx i carry_in e hx hy s f = record {
  within = All-push (IsWithin d.vars) (sum ++ low ∷ []) high
      (All-push (IsWithin d.vars) sum low (within_push sum carry (AreWithin-later {c = c} {d = d} (sum ++ carry ∷ []) e s.within)) (All-head (IsWithin d.vars) low (high ∷ []) f.within))
      (All-head (IsWithin d.vars) high [] (All-tail (IsWithin d.vars) low (high ∷ []) f.within));
  len = omega (arith, length_push (sum ++ low ∷ []) high, length_push sum low, len_sum);
  value = λ a m.
      let v1 : number a sum + 2 ^ length sum * bit (lit_value a carry) ≡ number a (take i x) + number a (take i y) + carry_in a = sym (number-push a sum carry) ∙ s.value a (e.keeps a m) in
      let v2 : bit (lit_value a low) + 2 * bit (lit_value a high) ≡ bit (lit_value a (get_or x i dx)) + bit (lit_value a (get_or y i dx)) + bit (lit_value a carry) = sym (number-two a low high) ∙ f.value a m in
      let v3 : number a ((sum ++ low ∷ []) ++ high ∷ []) ≡ number a sum + 2 ^ i * bit (lit_value a low) + 2 ^ i * 2 * bit (lit_value a high)
      = number-push a (sum ++ low ∷ []) high
      ∙ ap (λ k. number a (sum ++ low ∷ []) + 2 ^ k * bit (lit_value a high)) (length_push sum low ∙ ap (λ k. k + 1) len_sum ∙ add-one i)
      ∙ ap (λ k. number a (sum ++ low ∷ []) + k * bit (lit_value a high)) (pow-suc 2 i)
      ∙ ap (λ k. k + 2 ^ i * 2 * bit (lit_value a high)) (number-push a sum low ∙ ap (λ k. number a sum + 2 ^ k * bit (lit_value a low)) len_sum) in
      omega (arith, v1, v3, ap (λ k. 2 ^ i * k) v2, ap (λ k. 2 ^ k * bit (lit_value a carry)) len_sum, number_more a x i dx hx, number_more a y i dx hy);
} where
  len_sum : length sum ≡ i
  len_sum = omega (arith, length_push sum carry, s.len)

-- the sum of no places is the carry
pub ripple_none : (c : Circuit) (x y : List Lit) (carry : Lit) → IsWithin c.vars carry → GivesNumber c ([] ++ carry ∷ []) 1 (λ a. number a (take 0 x) + number a (take 0 y) + bit (lit_value a carry))
ripple_none c x y carry w = record { within = AreWithin-one carry w; len = refl; value = λ a m. number-one a carry ∙ omega (arith, number-nil a) }

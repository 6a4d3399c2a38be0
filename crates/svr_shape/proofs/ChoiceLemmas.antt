-- A choice bit by bit
use Rattle.std.proofs.Common.{◌≡◌, ℕ, ◌+◌, ◌*◌, ◌^◌, ◌<◌, Bool, true, false, cond, List, [], ◌∷◌, ◌++◌, length, take, get_or, sym, ◌∙◌, ap, refl, subst}
use Rattle.svr_chain.specs.declared.clause.Lit.{Lit}
use Rattle.svr_chain.specs.Valuations.{lit_value}
use Rattle.svr_gate.specs.Numbers.{bit, number}
use Rattle.svr_gate.specs.Gates.{table_value}
use Rattle.svr_gate.specs.Circuit.{Circuit, Extends, Tells, GivesNumber}
use Rattle.svr_gate.proofs.NumberLemmas.{number_more, number-nil, number-three}
use Rattle.svr_gate.proofs.Vectors.{GivesNumber-push, GivesNumber-same, GivesNumber-nil}
use Rattle.svr_gate.proofs.TableLemmas.{Tells-choice, choice_value}
use Rattle.svr_chain.specs.Clauses.{IsWithin}

-- a choice between a literal and itself
pub one_chosen : (c : Circuit) (t x y : Lit) → x ≡ y → IsWithin c.vars x → Tells c x (λ a. table_value 0xd8 (number a (t ∷ x ∷ y ∷ [])))
one_chosen c t x y e w = record {
  within = w;
  value = λ a m.
      sym (ap (table_value 0xd8) (number-three a t x y)
      ∙ choice_value (lit_value a t) (lit_value a x) (lit_value a y)
      ∙ ap (λ (l : Lit). cond (lit_value a t) (lit_value a x) (lit_value a l)) (sym e)
      ∙ either (lit_value a t) (lit_value a x));
} where
  either : (b v : Bool) → cond b v v ≡ v
  either true v = refl
  either false v = refl

chosen_more : (t p q : Bool) (m n m' n' k : ℕ) → m' ≡ m + k * bit p → n' ≡ n + k * bit q → cond t m n + k * bit (cond t p q) ≡ cond t m' n'
chosen_more true p q m n m' n' k e f = sym e
chosen_more false p q m n m' n' k e f = sym f

pub choose_step : (c d : Circuit) (test : Lit) (x y v : List Lit) (l dx : Lit) (i : ℕ) → Extends c d → i < length x → i < length y
    → GivesNumber c v i (λ a. cond (lit_value a test) (number a (take i x)) (number a (take i y)))
    → Tells d l (λ a. table_value 0xd8 (number a (test ∷ get_or x i dx ∷ get_or y i dx ∷ [])))
    → GivesNumber d (v ++ l ∷ []) (i + 1) (λ a. cond (lit_value a test) (number a (take (i + 1) x)) (number a (take (i + 1) y)))
choose_step c d test x y v l dx i e hx hy g t =
    GivesNumber-same (λ a. cond (lit_value a test) (number a (take (i + 1) x)) (number a (take (i + 1) y)))
    (GivesNumber-push e g (Tells-choice test (get_or x i dx) (get_or y i dx) t))
    (λ a m.
    chosen_more (lit_value a test) (lit_value a (get_or x i dx)) (lit_value a (get_or y i dx)) (number a (take i x)) (number a (take i y)) (number a (take (i + 1) x)) (number a (take (i + 1) y)) (2 ^ i)
    (number_more a x i dx hx) (number_more a y i dx hy))

pub choose_none : (c : Circuit) (test : Lit) (x y : List Lit) → GivesNumber c [] 0 (λ a. cond (lit_value a test) (number a (take 0 x)) (number a (take 0 y)))
choose_none c test x y =
    GivesNumber-same (λ a. cond (lit_value a test) (number a (take 0 x)) (number a (take 0 y))) (GivesNumber-nil c)
    (λ a m. sym (ap (λ n. cond (lit_value a test) n n) (number-nil a) ∙ same (lit_value a test))) where
      same : (b : Bool) → ◌≡◌ {A = ℕ} (cond b 0 0) 0
      same true = refl
      same false = refl

-- a choice between the same lists
pub chosen_same : {c : Circuit} {v : List Lit} (test : Lit) (p q x y : List Lit) → p ≡ x → q ≡ y
    → GivesNumber c v (length p) (λ a. cond (lit_value a test) (number a p) (number a q)) → GivesNumber c v (length x) (λ a. cond (lit_value a test) (number a x) (number a y))
chosen_same {c} {v} test p q x y e f g =
    subst (λ (ls : List Lit). GivesNumber c v (length x) (λ a. cond (lit_value a test) (number a x) (number a ls))) f
    (subst (λ (ls : List Lit). GivesNumber c v (length ls) (λ a. cond (lit_value a test) (number a ls) (number a q))) e g)

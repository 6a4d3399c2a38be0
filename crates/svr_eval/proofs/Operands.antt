-- Lists of operands, taken apart.
use Rattle.std.proofs.Common.{◌≡◌, ℕ, suc, ◌+◌, ◌-◌, ◌<◌, Bool, true, false, not, ◌&&◌, ◌||◌, List, [], ◌∷◌, ◌++◌, refl, sym, ap, ◌∙◌, arith}
use Rattle.std.specs.List.{list_any}
use Rattle.svr_eval.specs.Reading.{Reading}
use Rattle.svr_typed.specs.ExprTerm.{ExprTerms, no_exprs, more_exprs}
use Rattle.svr_eval.specs.Value.{Operand, element_operand, are_equal, operand_of, property_of}
use Rattle.svr_eval.specs.Holds.{are_distinct, elements_from, member_operands, operands}
use Rattle.svr_eval.specs.Operands.{are_apart, members_are_apart}

or-assoc : (p q r : Bool) → ((p || q) || r) ≡ (p || (q || r))
or-assoc true q r = refl
or-assoc false q r = refl

and-assoc : (p q r : Bool) → ((p && q) && r) ≡ (p && (q && r))
and-assoc true q r = refl
and-assoc false q r = refl

pub any_append : {A : Type 0} (f : A → Bool) (xs ys : List A) → list_any f (xs ++ ys) ≡ (list_any f xs || list_any f ys)
any_append f [] ys = refl
any_append f (x ∷ xs) ys = ap (λ b. f x || b) (any_append f xs ys) ∙ sym (or-assoc (f x) (list_any f xs) (list_any f ys))

-- what is distinct from front to back
pub distinct_append : (xs ys : List Operand) → are_distinct (xs ++ ys) ≡ (are_apart xs ys && are_distinct ys)
distinct_append [] ys = refl
distinct_append (x ∷ xs) ys =
    ap (λ b. not b && are_distinct (xs ++ ys)) (any_append (are_equal x) xs ys)
    ∙ ap (λ b. not (list_any (are_equal x) xs || list_any (are_equal x) ys) && b) (distinct_append xs ys)
    ∙ sym (and-assoc (not (list_any (are_equal x) xs || list_any (are_equal x) ys)) (are_apart xs ys) (are_distinct ys))

-- the next element
pub next_element : (a : Reading) (p w : ℕ) (s : Bool) (i n : ℕ) → i < n
    → elements_from a p w s i (n - i) ≡ element_operand a p w s i ∷ elements_from a p w s (i + 1) (n - (i + 1))
next_element a p w s i n less =
    let e : n - i ≡ suc (n - (i + 1)) = omega arith in
    let f : suc i ≡ i + 1 = omega arith in
    rw (e, f) refl

-- members apart from those behind them are all distinct
pub each_is_apart_is : (a : Reading) (env : List ℕ) (es : ExprTerms) → members_are_apart a env es ≡ are_distinct (operands a env es)
each_is_apart_is a env no_exprs = refl
each_is_apart_is a env (more_exprs e es) =
    ap (λ b. are_apart (member_operands a (property_of e) (operand_of a env e)) (operands a env es) && b) (each_is_apart_is a env es)
    ∙ sym (distinct_append (member_operands a (property_of e) (operand_of a env e)) (operands a env es))

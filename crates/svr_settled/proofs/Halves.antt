-- The items that are needed hold where those of both halves of the list do.
use Rattle.std.proofs.Common.{◌≡◌, ℕ, zero, suc, Bool, true, false, ◌&&◌, List, [], ◌∷◌, map, take, drop, refl, sym, ap, ◌∙◌}
use Rattle.std.specs.List.{list_all}
use Rattle.svr_typed.specs.declared.expr.TExpr.{TExpr}
use Rattle.svr_typed.specs.ExprTerm.{ExprTerm, expr_term}
use Rattle.svr_values.specs.Needed.{needed_of}

and_and : (a b c : Bool) → (a && (b && c)) ≡ (a && b && c)
and_and true b c = refl
and_and false b c = refl

-- without marks none is needed
none_marked : (es : List ExprTerm) → needed_of es [] ≡ []
none_marked [] = refl
none_marked (e ∷ es) = refl

pub halves : (g : ExprTerm → Bool) (items : List TExpr) (marks : List Bool) (k : ℕ)
    → list_all g (needed_of (map expr_term items) marks) ≡ (list_all g (needed_of (map expr_term (take k items)) (take k marks)) && list_all g (needed_of (map expr_term (drop k items)) (drop k marks)))
halves g items marks zero = refl
halves g [] marks (suc k) = refl
halves g (x ∷ xs) [] (suc k) = sym (ap (λ es. list_all g es) (none_marked (map expr_term (drop k xs))))
halves g (x ∷ xs) (true ∷ marks) (suc k) = ap (λ b. g (expr_term x) && b) (halves g xs marks k) ∙ and_and (g (expr_term x)) _ _
halves g (x ∷ xs) (false ∷ marks) (suc k) = halves g xs marks k

and_false : (b : Bool) → (b && false) ≡ false
and_false true = refl
and_false false = refl

module _ (g : ExprTerm → Bool) (items : List TExpr) (marks : List Bool) (k : ℕ) where
  abbrev pub part : List TExpr → List Bool → Bool
  part es ms = list_all g (needed_of (map expr_term es) ms)

  -- those of the second half do not
  pub back_fails : (es : List TExpr) (ms : List Bool) → es ≡ drop k items → ms ≡ drop k marks → part es ms ≡ false → false ≡ part items marks
  back_fails es ms is these bad =
      sym (halves g items marks k ∙ ap (λ b. part (take k items) (take k marks) && b) (sym (λ i. part (is i) (these i)) ∙ bad) ∙ and_false (part (take k items) (take k marks)))

  -- those of the first half do not
  pub front_fails : (es : List TExpr) (ms : List Bool) → es ≡ take k items → ms ≡ take k marks → part es ms ≡ false → false ≡ part items marks
  front_fails es ms is these bad =
      sym (halves g items marks k ∙ ap (λ b. b && part (drop k items) (drop k marks)) (sym (λ i. part (is i) (these i)) ∙ bad))

  -- those of both do
  pub both_hold : (es fs : List TExpr) (ms ns : List Bool) → es ≡ take k items → ms ≡ take k marks → fs ≡ drop k items → ns ≡ drop k marks → part es ms ≡ true → part fs ns ≡ true → true ≡ part items marks
  both_hold es fs ms ns is these are those front back =
      sym (halves g items marks k ∙ (λ i. (sym (λ j. part (is j) (these j)) ∙ front) i && (sym (λ j. part (are j) (those j)) ∙ back) i))

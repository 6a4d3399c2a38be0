-- A test of all items, as far as a loop has come.
use Rattle.std.proofs.Common.{◌≡◌, ◌<◌, ◌+◌, ℕ, Bool, true, false, ◌&&◌, List, [], ◌∷◌, ◌++◌, map, length, take, drop, get_or, refl, sym, ap, ◌∙◌}
use Rattle.std.specs.List.{list_all}
use Rattle.std.proofs.lemmas.List.{take_more, take-append-drop, map_push, map-append}
use Rattle.std.proofs.lemmas.List.Folds.{list_all-append}
use Rattle.svr_typed.specs.declared.expr.TExpr.{TExpr}
use Rattle.svr_typed.specs.ExprTerm.{ExprTerm, expr_term}

module _ (g : ExprTerm → Bool) (items : List TExpr) (i : ℕ) (x : TExpr) (lt : i < length items) (is : x ≡ get_or items i x) where
  one_more : map expr_term (take (i + 1) items) ≡ map expr_term (take i items) ++ expr_term x ∷ []
  one_more = ap (map expr_term) (take_more items i x lt) ∙ ap (λ y. map expr_term (take i items ++ y ∷ [])) (sym is) ∙ map_push expr_term (take i items) x

  -- the first ones hold, and this one
  pub all_more : g (expr_term x) ≡ true → list_all g (map expr_term (take i items)) ≡ true → list_all g (map expr_term (take (i + 1) items)) ≡ true
  all_more here before =
      ap (list_all g) one_more
      ∙ list_all-append g (map expr_term (take i items)) (expr_term x ∷ [])
      ∙ (λ k. before k && (here k && true))

  none : (b : Bool) → (b && false) ≡ false
  none true = refl
  none false = refl

  -- this one does not
  pub all_fails : g (expr_term x) ≡ false → list_all g (map expr_term items) ≡ false
  all_fails here =
      let first : list_all g (map expr_term (take (i + 1) items)) ≡ false
      = ap (list_all g) one_more
      ∙ list_all-append g (map expr_term (take i items)) (expr_term x ∷ [])
      ∙ ap (λ b. list_all g (map expr_term (take i items)) && (b && true)) here
      ∙ none (list_all g (map expr_term (take i items))) in
      ap (λ xs. list_all g (map expr_term xs)) (sym (take-append-drop (i + 1) items))
      ∙ ap (list_all g) (map-append expr_term (take (i + 1) items) (drop (i + 1) items))
      ∙ list_all-append g (map expr_term (take (i + 1) items)) (map expr_term (drop (i + 1) items))
      ∙ ap (λ b. b && list_all g (map expr_term (drop (i + 1) items))) first

-- Lists of copies by places, one by one.
use Rattle.std.proofs.Common.{◌≡◌, ◌≤◌, ℕ, refl, sym, ◌∙◌, ap, List, [], ◌∷◌, map, take, length}
use Rattle.std.proofs.lemmas.List.{take_all}
use Rattle.svr_typed.specs.declared.expr.TExpr.{TExpr}
use Rattle.svr_typed.specs.declared.expr.TRange.{TRange}
use Rattle.svr_typed.specs.ExprTerm.{more_exprs, more_ranges, exprs_of, ranges_of, expr_term, expr_terms, range_term, range_terms}
use Rattle.svr_effect.specs.Mentions.{Mentioned, by_places, all_by_places, range_by_places, ranges_by_places}

module _ (m : Mentioned) where
  exprs_one_by_one : (es : List TExpr) → all_by_places m (expr_terms es) ≡ exprs_of (map (λ e. by_places m (expr_term e)) es)
  exprs_one_by_one [] = refl
  exprs_one_by_one (e ∷ es) = ap (more_exprs (by_places m (expr_term e))) (exprs_one_by_one es)

  ranges_one_by_one : (rs : List TRange) → ranges_by_places m (range_terms rs) ≡ ranges_of (map (λ r. range_by_places m (range_term r)) rs)
  ranges_one_by_one [] = refl
  ranges_one_by_one (r ∷ rs) = ap (more_ranges (range_by_places m (range_term r))) (ranges_one_by_one rs)

  pub exprs_done : (cs es : List TExpr) (i : ℕ) → length es ≤ i → map expr_term cs ≡ map (λ e. by_places m (expr_term e)) (take i es) → expr_terms cs ≡ all_by_places m (expr_terms es)
  exprs_done cs es i le h = ap exprs_of (h ∙ ap (map (λ e. by_places m (expr_term e))) (take_all i es le)) ∙ sym (exprs_one_by_one es)

  pub ranges_done : (cs rs : List TRange) (i : ℕ) → length rs ≤ i → map range_term cs ≡ map (λ r. range_by_places m (range_term r)) (take i rs) → range_terms cs ≡ ranges_by_places m (range_terms rs)
  ranges_done cs rs i le h = ap ranges_of (h ∙ ap (map (λ r. range_by_places m (range_term r))) (take_all i rs le)) ∙ sym (ranges_one_by_one rs)

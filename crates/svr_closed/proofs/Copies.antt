-- Lists of closed parts, one by one.
use Rattle.std.proofs.Common.{◌≡◌, ℕ, ◌≤◌, refl, sym, ◌∙◌, ap, List, [], ◌∷◌, map, take, length}
use Rattle.std.proofs.lemmas.List.{take_all}
use Rattle.svr_typed.specs.declared.expr.TExpr.{TExpr}
use Rattle.svr_typed.specs.declared.expr.TRange.{TRange}
use Rattle.svr_typed.specs.ExprTerm.{more_exprs, more_ranges, exprs_of, ranges_of, expr_term, expr_terms, range_term, range_terms}
use Rattle.svr_frame.specs.Closed.{closed_within, closed_exprs, closed_range, closed_ranges}

exprs_one_by_one : (env : List ℕ) (own : ℕ) (es : List TExpr) → closed_exprs env own (expr_terms es) ≡ exprs_of (map (λ e. closed_within env own (expr_term e)) es)
exprs_one_by_one env own [] = refl
exprs_one_by_one env own (e ∷ es) = ap (more_exprs (closed_within env own (expr_term e))) (exprs_one_by_one env own es)

ranges_one_by_one : (env : List ℕ) (own : ℕ) (rs : List TRange) → closed_ranges env own (range_terms rs) ≡ ranges_of (map (λ r. closed_range env own (range_term r)) rs)
ranges_one_by_one env own [] = refl
ranges_one_by_one env own (r ∷ rs) = ap (more_ranges (closed_range env own (range_term r))) (ranges_one_by_one env own rs)

pub exprs_done : (env : List ℕ) (own : ℕ) (cs es : List TExpr) (i : ℕ) → length es ≤ i → map expr_term cs ≡ map (λ e. closed_within env own (expr_term e)) (take i es) → expr_terms cs ≡ closed_exprs env own (expr_terms es)
exprs_done env own cs es i le h = ap exprs_of (h ∙ ap (map (λ e. closed_within env own (expr_term e))) (take_all i es le)) ∙ sym (exprs_one_by_one env own es)

pub ranges_done : (env : List ℕ) (own : ℕ) (cs rs : List TRange) (i : ℕ) → length rs ≤ i → map range_term cs ≡ map (λ r. closed_range env own (range_term r)) (take i rs) → range_terms cs ≡ closed_ranges env own (range_terms rs)
ranges_done env own cs rs i le h = ap ranges_of (h ∙ ap (map (λ r. closed_range env own (range_term r))) (take_all i rs le)) ∙ sym (ranges_one_by_one env own rs)

-- Lists of copies, one by one.
use Rattle.std.proofs.Common.{◌≡◌, ℕ, ◌+◌, ◌<◌, ◌≤◌, refl, sym, ◌∙◌, ap, List, [], ◌∷◌, ◌++◌, map, take, get_or, length}
use Rattle.std.specs.Prelude.{Result, Ok, IfOk}
use Rattle.std.proofs.lemmas.Result.{IfOk-at_ok}
use Rattle.std.proofs.lemmas.List.{map-append, take_all, take_more}
use Rattle.svr_typed.specs.declared.expr.TExpr.{TExpr}
use Rattle.svr_typed.specs.declared.expr.TRange.{TRange}
use Rattle.svr_typed.specs.ExprTerm.{more_exprs, more_ranges, exprs_of, ranges_of, expr_term, expr_terms, range_term, range_terms}
use Rattle.svr_script.specs.Numbered.{numbered, numbered_all, numbered_range, numbered_ranges}

exprs_one_by_one : (es : List TExpr) → numbered_all (expr_terms es) ≡ exprs_of (map (λ e. numbered (expr_term e)) es)
exprs_one_by_one [] = refl
exprs_one_by_one (e ∷ es) = ap (more_exprs (numbered (expr_term e))) (exprs_one_by_one es)

ranges_one_by_one : (rs : List TRange) → numbered_ranges (range_terms rs) ≡ ranges_of (map (λ r. numbered_range (range_term r)) rs)
ranges_one_by_one [] = refl
ranges_one_by_one (r ∷ rs) = ap (more_ranges (numbered_range (range_term r))) (ranges_one_by_one rs)

pub exprs_done : (cs es : List TExpr) (i : ℕ) → length es ≤ i → map expr_term cs ≡ map (λ e. numbered (expr_term e)) (take i es) → expr_terms cs ≡ numbered_all (expr_terms es)
exprs_done cs es i le h = ap exprs_of (h ∙ ap (map (λ e. numbered (expr_term e))) (take_all i es le)) ∙ sym (exprs_one_by_one es)

pub ranges_done : (cs rs : List TRange) (i : ℕ) → length rs ≤ i → map range_term cs ≡ map (λ r. numbered_range (range_term r)) (take i rs) → range_terms cs ≡ numbered_ranges (range_terms rs)
ranges_done cs rs i le h = ap ranges_of (h ∙ ap (map (λ r. numbered_range (range_term r))) (take_all i rs le)) ∙ sym (ranges_one_by_one rs)

pub one_more : {A B E : Type 0} (f g : A → B) (made longer xs : List A) (i : ℕ) (x : A) (value : Result A E) → i < length xs → x ≡ get_or xs i x → IfOk value (λ r. f r ≡ g x)
    → (last : A) × (value ≡ Ok last) × (longer ≡ made ++ last ∷ []) → map f made ≡ map g (take i xs) → map f longer ≡ map g (take (i + 1) xs)
one_more f g made longer xs i x value lt is copied more before =
    let same : f more.0 ≡ g x = IfOk-at_ok (λ r. f r ≡ g x) more.1 copied in
    ap (map f) more.2
    ∙ map-append f made (more.0 ∷ [])
    ∙ (λ k. before k ++ same k ∷ [])
    ∙ (λ k. map g (take i xs) ++ g (is k) ∷ [])
    ∙ sym (map-append g (take i xs) (get_or xs i x ∷ []))
    ∙ ap (map g) (sym (take_more xs i x lt))

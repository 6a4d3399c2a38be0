-- What is typed is so from a place on, and what a branch stands for.
use Rattle.std.proofs.Common.{rules, ◌≡◌, ℕ, zero, suc, Some, List, [], ◌∷◌, drop}
use Rattle.svr_typed.specs.declared.expr.TRange.{TRange}
use Rattle.svr_typed.specs.declared.expr.TExpr.{TExpr}
use Rattle.svr_typed.specs.declared.item.TItem.{TItem, Branch, the_lemmas}
use Rattle.svr_typed.specs.ExprTerm.{expr_term, range_terms}
use Rattle.svr_typed.specs.ItemTerm.{branch, else_items, item_term, item_terms}
use Rattle.svr_eval.specs.Typed.{RangesAreTyped}
use Rattle.svr_eval.specs.Holds.{ItemsAreTyped}

pub ranges_from : (rs : List TRange) (k : ℕ) → RangesAreTyped (range_terms rs) → RangesAreTyped (range_terms (drop k rs))
ranges_from rs zero h = h
ranges_from [] (suc k) h = tt
ranges_from (r ∷ rs) (suc k) h = ranges_from rs k h.1

pub items_from : (is : List TItem) (k : ℕ) → ItemsAreTyped (item_terms is) → ItemsAreTyped (item_terms (drop k is))
items_from is zero h = h
items_from [] (suc k) h = tt
items_from (i ∷ is) (suc k) h = items_from is k h.1

pub branch_term : (t : TExpr) (met unmet : List TItem) → item_term (Branch t met (Some unmet)) ≡ branch (expr_term t) (item_terms met) (else_items (item_terms unmet))
branch_term t met unmet = search (rules, the_lemmas)

-- Typed constraint items as plain data, and the one that a `TItem` stands for (IEEE 1800-2017, 18.5).
use Rattle.std.specs.Prelude.{ℕ, Bool, List, [], ◌∷◌, Option, Some, None, map, option_map}
use Rattle.svr_operator.specs.declared.Share.{Share}
use Rattle.svr_typed.specs.declared.item.TDistItem.{TDistItem}
use Rattle.svr_typed.specs.declared.item.TItem.{TItem, fold-TItem}
use Rattle.svr_typed.specs.declared.item.TItem.TheOpen.{TItem-F}
use Rattle.svr_typed.specs.declared.expr.TExpr.{TExpr}
use Rattle.svr_typed.specs.ExprTerm.{ExprTerm, ExprTerms, RangeTerm, expr_term, expr_terms, range_term}

-- a member of a `dist` set
pub record DistTerm : Type 0 where
  pub range : RangeTerm
  pub weight : Option (Share × ExprTerm)

mutual
  pub data ItemTerm : Type 0 where
    -- soft, expression, `dist`
    plain : Bool → ExprTerm → Option (List DistTerm) → ItemTerm
    unique : ExprTerms → ItemTerm
    implies : ExprTerm → ItemTerms → ItemTerm
    branch : ExprTerm → ItemTerms → ElseTerm → ItemTerm
    -- array, second dimension, number of loop variables, body
    foreach : ℕ → ℕ → ℕ → ItemTerms → ItemTerm
    disable : ExprTerm → ItemTerm
    solve : ExprTerms → ExprTerms → ItemTerm

  pub data ItemTerms : Type 0 where
    no_items : ItemTerms
    more_items : ItemTerm → ItemTerms → ItemTerms

  pub data ElseTerm : Type 0 where
    no_else : ElseTerm
    else_items : ItemTerms → ElseTerm

abbrev pub items_of : List ItemTerm → ItemTerms
items_of [] = no_items
items_of (i ∷ is) = more_items i (items_of is)

abbrev pub else_of : Option (List ItemTerm) → ElseTerm
else_of None = no_else
else_of (Some is) = else_items (items_of is)

abbrev pub weight_term : Share × TExpr → Share × ExprTerm
weight_term w = (w.0, expr_term w.1)

abbrev pub dist_term : TDistItem → DistTerm
dist_term d = record { range = range_term d.range; weight = option_map weight_term d.weight }

abbrev pub dist_terms : List TDistItem → List DistTerm
dist_terms ds = map dist_term ds

abbrev pub item_step : TItem-F ItemTerm → ItemTerm
item_step (TItem-F.Plain soft e ds) = plain soft (expr_term e) (option_map dist_terms ds)
item_step (TItem-F.Unique members) = unique (expr_terms members)
item_step (TItem-F.Implies t body) = implies (expr_term t) (items_of body)
item_step (TItem-F.Branch t met unmet) = branch (expr_term t) (items_of met) (else_of unmet)
item_step (TItem-F.Foreach p m names body) = foreach p m names (items_of body)
item_step (TItem-F.Disable target) = disable (expr_term target)
item_step (TItem-F.Solve first later) = solve (expr_terms first) (expr_terms later)

-- what an item stands for
abbrev pub item_term : TItem → ItemTerm
item_term = fold-TItem ItemTerm item_step

abbrev pub item_terms : List TItem → ItemTerms
item_terms is = items_of (map item_term is)

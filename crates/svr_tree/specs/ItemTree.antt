-- Constraint items as plain data, and the one that an `Item` stands for (IEEE 1800-2017, A.1.10).
use Rattle.std.specs.Prelude.{ℕ, Bool, List, [], ◌∷◌, Option, Some, None, map, option_map}
use Rattle.svr_operator.specs.declared.Share.{Share}
use Rattle.svr_tree.specs.declared.expr.Expr.{Expr}
use Rattle.svr_tree.specs.declared.item.DistItem.{DistItem}
use Rattle.svr_tree.specs.declared.item.Dist.{Dist}
use Rattle.svr_tree.specs.declared.item.Item.{Item}
use Rattle.svr_tree.specs.declared.item.Set.{Set}
use Rattle.svr_tree.specs.declared.item.Item.TheOpen.{Item-F, Set-F}
use Rattle.svr_tree.specs.declared.item.Item.TheFolds.{fold-Item, fold-Set}
use Rattle.svr_tree.specs.ExprTree.{ExprTree, ExprTrees, RangeTree, expr_tree, expr_trees, range_tree}

-- a member of a `dist` set
pub record DistItemTree : Type 0 where
  pub range : RangeTree
  pub weight : Option (Share × ExprTree)

pub record DistTree : Type 0 where
  pub at : ℕ
  pub items : List DistItemTree

-- the first number is that of the first token
mutual
  pub data ItemTree : Type 0 where
    -- soft, expression, `dist`
    plain : ℕ → Bool → ExprTree → Option DistTree → ItemTree
    unique : ℕ → ExprTrees → ItemTree
    implies : ℕ → ExprTree → SetTree → ItemTree
    branch : ℕ → ExprTree → SetTree → ElseTree → ItemTree
    -- array, loop variables, set
    foreach : ℕ → ExprTree → List ℕ → SetTree → ItemTree
    disable : ℕ → ExprTree → ItemTree
    solve : ℕ → ExprTrees → ExprTrees → ItemTree

  pub data ItemTrees : Type 0 where
    no_items : ItemTrees
    more_items : ItemTree → ItemTrees → ItemTrees

  -- whether there are braces, and the items
  pub data SetTree : Type 0 where
    set : Bool → ItemTrees → SetTree

  pub data ElseTree : Type 0 where
    no_else : ElseTree
    else_set : SetTree → ElseTree

abbrev pub items_of : List ItemTree → ItemTrees
items_of [] = no_items
items_of (i ∷ is) = more_items i (items_of is)

abbrev pub else_of : Option SetTree → ElseTree
else_of None = no_else
else_of (Some s) = else_set s

abbrev pub weight_tree : Share × Expr → Share × ExprTree
weight_tree w = (w.0, expr_tree w.1)

abbrev pub dist_item_tree : DistItem → DistItemTree
dist_item_tree d = record { range = range_tree d.range; weight = option_map weight_tree d.weight }

abbrev pub dist_item_trees : List DistItem → List DistItemTree
dist_item_trees ds = map dist_item_tree ds

abbrev pub dist_tree : Dist → DistTree
dist_tree d = record { at = d.at; items = dist_item_trees d.items }

abbrev pub item_step : Item-F ItemTree SetTree → ItemTree
item_step (Item-F.Plain at soft e d) = plain at soft (expr_tree e) (option_map dist_tree d)
item_step (Item-F.Unique at members) = unique at (expr_trees members)
item_step (Item-F.Implies at t body) = implies at (expr_tree t) body
item_step (Item-F.Branch at t met unmet) = branch at (expr_tree t) met (else_of unmet)
item_step (Item-F.Foreach at a vars body) = foreach at (expr_tree a) vars body
item_step (Item-F.Disable at target) = disable at (expr_tree target)
item_step (Item-F.Solve at first later) = solve at (expr_trees first) (expr_trees later)

abbrev pub set_step : Set-F ItemTree SetTree → SetTree
set_step s = set s.braces (items_of s.items)

-- what an item and a set stand for
abbrev pub item_tree : Item → ItemTree
item_tree = fold-Item ItemTree SetTree item_step set_step

abbrev pub set_tree : Set → SetTree
set_tree = fold-Set ItemTree SetTree item_step set_step

abbrev pub item_trees : List Item → ItemTrees
item_trees is = items_of (map item_tree is)

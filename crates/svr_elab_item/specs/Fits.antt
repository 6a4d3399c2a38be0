-- What a script that was read gives of its items: literals fit their widths, lists are as long as the grammar says, and loops can be numbered.
use Rattle.std.specs.Prelude.{ℕ, ◌+◌, ◌<◌, ◌^◌, length, List, [], ◌∷◌, Option, Some, None, ⊤}
use Rattle.svr_operator.specs.declared.Share.{Share}
use Rattle.svr_tree.specs.ExprTree.{ExprTree}
use Rattle.svr_tree.specs.ItemTree as tree
use Rattle.svr_tree.specs.ItemTree.{DistItemTree, DistTree, ItemTree, ItemTrees, SetTree, ElseTree}
use Rattle.svr_elab_part.specs.Fits.{LiteralsFit, AllFit, RangeFits, LoopsFit, AllLoopsFit, RangeLoopsFit}

-- ---- literals and lists

abbrev pub WeightFits : Option (Share × ExprTree) → Type 0
WeightFits None = ⊤
WeightFits (Some w) = LiteralsFit w.1

abbrev pub DistItemsFit : List DistItemTree → Type 0
DistItemsFit [] = ⊤
DistItemsFit (d ∷ ds) = RangeFits d.range × WeightFits d.weight × DistItemsFit ds

abbrev pub DistFits : Option DistTree → Type 0
DistFits None = ⊤
DistFits (Some d) = DistItemsFit d.items

abbrev mutual
  pub ItemFits : ItemTree → Type 0
  ItemFits (tree.plain at soft e d) = LiteralsFit e × DistFits d
  ItemFits (tree.unique at es) = AllFit es
  ItemFits (tree.implies at t s) = LiteralsFit t × SetFits s
  ItemFits (tree.branch at t met unmet) = LiteralsFit t × SetFits met × ElseFits unmet
  ItemFits (tree.foreach at x vs s) = LiteralsFit x × (length vs < 256) × SetFits s
  ItemFits (tree.disable at x) = LiteralsFit x
  ItemFits (tree.solve at xs ys) = ⊤

  pub ItemsFit : ItemTrees → Type 0
  ItemsFit tree.no_items = ⊤
  ItemsFit (tree.more_items i is) = ItemFits i × ItemsFit is

  pub SetFits : SetTree → Type 0
  SetFits (tree.set braces is) = ItemsFit is

  pub ElseFits : ElseTree → Type 0
  ElseFits tree.no_else = ⊤
  ElseFits (tree.else_set s) = SetFits s

-- ---- each name stands in fewer than 2^32 loops and reductions, where `depth` are around the item

abbrev pub WeightLoopsFit : ℕ → Option (Share × ExprTree) → Type 0
WeightLoopsFit depth None = ⊤
WeightLoopsFit depth (Some w) = LoopsFit depth w.1

abbrev pub DistItemsLoopsFit : ℕ → List DistItemTree → Type 0
DistItemsLoopsFit depth [] = ⊤
DistItemsLoopsFit depth (d ∷ ds) = RangeLoopsFit depth d.range × WeightLoopsFit depth d.weight × DistItemsLoopsFit depth ds

abbrev pub DistLoopsFit : ℕ → Option DistTree → Type 0
DistLoopsFit depth None = ⊤
DistLoopsFit depth (Some d) = DistItemsLoopsFit depth d.items

abbrev mutual
  pub ItemLoopsFit : ℕ → ItemTree → Type 0
  ItemLoopsFit depth (tree.plain at soft e d) = LoopsFit depth e × DistLoopsFit depth d
  ItemLoopsFit depth (tree.unique at es) = AllLoopsFit depth es
  ItemLoopsFit depth (tree.implies at t s) = LoopsFit depth t × SetLoopsFit depth s
  ItemLoopsFit depth (tree.branch at t met unmet) = LoopsFit depth t × SetLoopsFit depth met × ElseLoopsFit depth unmet
  ItemLoopsFit depth (tree.foreach at x vs s) = LoopsFit depth x × SetLoopsFit (depth + length vs) s
  ItemLoopsFit depth (tree.disable at x) = LoopsFit depth x
  ItemLoopsFit depth (tree.solve at xs ys) = depth < 2 ^ 32

  pub ItemsLoopsFit : ℕ → ItemTrees → Type 0
  ItemsLoopsFit depth tree.no_items = ⊤
  ItemsLoopsFit depth (tree.more_items i is) = ItemLoopsFit depth i × ItemsLoopsFit depth is

  pub SetLoopsFit : ℕ → SetTree → Type 0
  SetLoopsFit depth (tree.set braces is) = ItemsLoopsFit depth is

  pub ElseLoopsFit : ℕ → ElseTree → Type 0
  ElseLoopsFit depth tree.no_else = ⊤
  ElseLoopsFit depth (tree.else_set s) = SetLoopsFit depth s

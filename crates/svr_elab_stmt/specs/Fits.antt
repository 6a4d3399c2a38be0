-- What a script that was read gives of its statements: literals fit their widths, lists are as long as the grammar says, and loops and values can be counted, where `depth` loops are around.
use Rattle.std.specs.Prelude.{ℕ, ◌+◌, ◌<◌, ◌^◌, Option, Some, None, ⊤}
use Rattle.svr_tree.specs.ExprTree as raw
use Rattle.svr_tree.specs.ExprTree.{ExprTrees}
use Rattle.svr_tree.specs.ItemTree.{ItemTrees}
use Rattle.svr_tree.specs.StmtTree as tree
use Rattle.svr_tree.specs.StmtTree.{RandomizeTree, ModeTree, RightTree, StmtTree, StmtTrees}
use Rattle.svr_elab_type.specs.Fits.{ExprFits}
use Rattle.svr_elab_item.specs.Fits.{ItemsFit, ItemsLoopsFit}

abbrev pub values_in : ExprTrees → ℕ
values_in raw.no_exprs = 0
values_in (raw.more_exprs e es) = values_in es + 1

abbrev pub ValuesFit : ℕ → ExprTrees → Type 0
ValuesFit depth raw.no_exprs = ⊤
ValuesFit depth (raw.more_exprs e es) = ExprFits depth e × ValuesFit depth es

abbrev pub InLineFits : ℕ → Option ItemTrees → Type 0
InLineFits depth None = ⊤
InLineFits depth (Some is) = ItemsLoopsFit depth is × ItemsFit is

abbrev pub CallFits : ℕ → RandomizeTree → Type 0
CallFits depth c = (depth < 2 ^ 32) × InLineFits depth c.items

abbrev pub ModeFits : ℕ → ModeTree → Type 0
ModeFits depth m = (depth < 2 ^ 32) × ExprFits depth m.on

abbrev pub RightFits : ℕ → RightTree → Type 0
RightFits depth (tree.value e) = ExprFits depth e
RightFits depth (tree.new parens) = ⊤
RightFits depth (tree.new_array e) = ExprFits depth e
RightFits depth (tree.pattern at vs) = ValuesFit depth vs × (values_in vs < 2 ^ 32)
RightFits depth (tree.answer c) = CallFits depth c

abbrev mutual
  pub StmtFits : ℕ → StmtTree → Type 0
  StmtFits depth (tree.empty at) = ⊤
  StmtFits depth (tree.block at ss) = StmtsFit depth ss
  StmtFits depth (tree.repeat at e s) = ExprFits depth e × StmtFits depth s
  StmtFits depth (tree.assign at x r) = ExprFits depth x × RightFits depth r
  StmtFits depth (tree.call at form c) = CallFits depth c
  StmtFits depth (tree.mode at m) = ModeFits depth m

  pub StmtsFit : ℕ → StmtTrees → Type 0
  StmtsFit depth tree.no_stmts = ⊤
  StmtsFit depth (tree.more_stmts s ss) = StmtFits depth s × StmtsFit depth ss

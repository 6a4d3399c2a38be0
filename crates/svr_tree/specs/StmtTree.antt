-- Statements as plain data, and the one that a `Stmt` stands for (IEEE 1800-2017, A.6 and A.8.2).
use Rattle.std.specs.Prelude.{ℕ, Bool, List, [], ◌∷◌, Option, map, option_map}
use Rattle.svr_tree.specs.declared.stmt.RandomizeArgs.{RandomizeArgs}
use Rattle.svr_tree.specs.declared.stmt.RandomizeCall.{RandomizeCall}
use Rattle.svr_tree.specs.declared.stmt.ModeKind.{ModeKind}
use Rattle.svr_tree.specs.declared.stmt.ModeCall.{ModeCall}
use Rattle.svr_tree.specs.declared.stmt.RightSide.{RightSide}
use Rattle.svr_tree.specs.declared.stmt.RightSide.TheVariants as right_side
use Rattle.svr_tree.specs.declared.stmt.CallForm.{CallForm}
use Rattle.svr_tree.specs.declared.stmt.Stmt.{Stmt, fold-Stmt}
use Rattle.svr_tree.specs.declared.stmt.Stmt.TheOpen.{Stmt-F}
use Rattle.svr_tree.specs.ExprTree.{ExprTree, ExprTrees, expr_tree, expr_trees}
use Rattle.svr_tree.specs.ItemTree.{ItemTrees, item_trees}

-- a call of `randomize`; `items` is its in-line set
pub record RandomizeTree : Type 0 where
  pub path : ExprTree
  pub args : RandomizeArgs
  pub items : Option ItemTrees

pub record ModeTree : Type 0 where
  pub path : ExprTree
  pub kind : ModeKind
  pub on : ExprTree

pub data RightTree : Type 0 where
  value : ExprTree → RightTree
  -- whether `()` follows
  new : Bool → RightTree
  new_array : ExprTree → RightTree
  pattern : ℕ → ExprTrees → RightTree
  answer : RandomizeTree → RightTree

-- the first number is that of the first token
mutual
  pub data StmtTree : Type 0 where
    empty : ℕ → StmtTree
    block : ℕ → StmtTrees → StmtTree
    repeat : ℕ → ExprTree → StmtTree → StmtTree
    assign : ℕ → ExprTree → RightTree → StmtTree
    call : ℕ → CallForm → RandomizeTree → StmtTree
    mode : ℕ → ModeTree → StmtTree

  pub data StmtTrees : Type 0 where
    no_stmts : StmtTrees
    more_stmts : StmtTree → StmtTrees → StmtTrees

abbrev pub stmts_of : List StmtTree → StmtTrees
stmts_of [] = no_stmts
stmts_of (s ∷ ss) = more_stmts s (stmts_of ss)

abbrev pub randomize_tree : RandomizeCall → RandomizeTree
randomize_tree c = record { path = expr_tree c.path; args = c.args; items = option_map item_trees c.«with» }

abbrev pub mode_tree : ModeCall → ModeTree
mode_tree m = record { path = expr_tree m.path; kind = m.kind; on = expr_tree m.on }

abbrev pub right_tree : RightSide → RightTree
right_tree (right_side.Value e) = value (expr_tree e)
right_tree (right_side.New parens) = new parens
right_tree (right_side.NewArray count) = new_array (expr_tree count)
right_tree (right_side.Pattern at values) = pattern at (expr_trees values)
right_tree (right_side.Call c) = answer (randomize_tree c)

abbrev pub stmt_step : Stmt-F StmtTree → StmtTree
stmt_step (Stmt-F.Empty at) = empty at
stmt_step (Stmt-F.Block at ss) = block at (stmts_of ss)
stmt_step (Stmt-F.Repeat at n s) = repeat at (expr_tree n) s
stmt_step (Stmt-F.Assign at target right) = assign at (expr_tree target) (right_tree right)
stmt_step (Stmt-F.Call at form c) = call at form (randomize_tree c)
stmt_step (Stmt-F.Mode at m) = mode at (mode_tree m)

-- what a statement stands for
abbrev pub stmt_tree : Stmt → StmtTree
stmt_tree = fold-Stmt StmtTree stmt_step

abbrev pub stmt_trees : List Stmt → StmtTrees
stmt_trees ss = stmts_of (map stmt_tree ss)

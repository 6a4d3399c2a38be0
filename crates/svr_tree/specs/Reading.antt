-- What it means that a tree reads a list of tokens (IEEE 1800-2017, Annex A).
use Rattle.std.specs.Prelude.{ℕ, ◌≤◌, List, []}
use Rattle.svr_tree.specs.ExprTree.{ExprTree}
use Rattle.svr_tree.specs.ItemTree.{ItemTree}
use Rattle.svr_tree.specs.StmtTree.{StmtTree}
use Rattle.svr_tree.specs.ScriptTree.{ScriptTree}
use Rattle.svr_tree.specs.Tokens.{Tok, FitsAll}
use Rattle.svr_tree.specs.ExprGrammar.{expr_spelling, IsExpr}
use Rattle.svr_tree.specs.ItemGrammar.{item_spelling, IsItem}
use Rattle.svr_tree.specs.StmtGrammar.{stmt_spelling, IsStmt}
use Rattle.svr_tree.specs.ScriptGrammar.{spelling, IsLevelled, height}

-- the tokens, all of them, are those that a tree of the grammar spells
pub record ReadsScript (tree : ScriptTree) (tokens : List Tok) : Type 0 where
  pub levelled : IsLevelled tree
  pub spells : FitsAll tokens (spelling tree) []

-- the same, and the tree is no higher than the limit
pub record IsReading (limit : ℕ) (tokens : List Tok) (tree : ScriptTree) : Type 0 where
  pub levelled : IsLevelled tree
  pub low : height tree ≤ limit
  pub spells : FitsAll tokens (spelling tree) []

-- ---- the same of an expression, an item and a statement

pub record ReadsExpr (tree : ExprTree) (tokens : List Tok) : Type 0 where
  pub levelled : IsExpr tree
  pub spells : FitsAll tokens (expr_spelling tree) []

pub record ReadsItem (tree : ItemTree) (tokens : List Tok) : Type 0 where
  pub levelled : IsItem tree
  pub spells : FitsAll tokens (item_spelling tree) []

pub record ReadsStmt (tree : StmtTree) (tokens : List Tok) : Type 0 where
  pub levelled : IsStmt tree
  pub spells : FitsAll tokens (stmt_spelling tree) []

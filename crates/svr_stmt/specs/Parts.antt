-- What the code answers, and what it calls for the statements within one.
use Rattle.std.specs.Prelude.{◌≤◌, ◌+◌, ℕ, max, List, Option, Result, IfOk, option_map}
use Rattle.std.specs.declared.alloc.Global.{Global}
use denote.Ref.{MutBor}
use Rattle.svr_token.specs.declared.Mark.TheVariants as m
use Rattle.svr_tree.specs.Tokens.{Tok}
use Rattle.svr_tree.specs.declared.item.Item.{Item}
use Rattle.svr_tree.specs.declared.stmt.Stmt.{Stmt}
use Rattle.svr_tree.specs.ItemTree.{ItemTrees, item_trees}
use Rattle.svr_tree.specs.ExprTree.{ExprTree}
use Rattle.svr_tree.specs.StmtTree.{StmtTree, repeat, stmt_tree}
use Rattle.svr_reader.specs.Outcomes.{Parser}
use Rattle.svr_reader.specs.declared.fault.ReadFault.{ReadFault}
use Rattle.svr_reader.specs.declared.fixed.Fixed.TheVariants as f
use Rattle.svr_reader.specs.Program.{pure, expect, call, run}
use Rattle.svr_reader.specs.Answers.{Gives}
use Rattle.svr_reader.specs.Calls.{cap, height_view}
use Rattle.svr_reader.specs.Lists.{◌>>=◌, ◌>>◌, WithHeight}
use Rattle.svr_stmt.specs.StmtRules.{Rule, a_stmt, stmt}

-- an in-line set seen as data
abbrev pub set_view : Option (List Item) → Option ItemTrees
set_view = option_map item_trees

-- the end of a statement of parts as high as the number
abbrev pub closing : StmtTree → ℕ → Rule (WithHeight StmtTree)
closing s height = do
  expect (f.Mark m.CloseParen)
  expect (f.Mark m.Semicolon)
  pure (s, height + 1)

-- what is repeated this often; the number is the height of the count
abbrev pub repeating : ℕ → ExprTree → ℕ → Rule (WithHeight StmtTree)
repeating at count height = do
  s ← call a_stmt
  pure (repeat at count s.0, max height s.1 + 1)

-- a function that reads the statements one level below
pub record Nests (room : ℕ) (pre : Global → MutBor (List Tok) → ℕ → Type 0)
    (post : Global → MutBor (List Tok) → ℕ → Result (WithHeight Stmt) ReadFault → MutBor (List Tok) → Type 0) : Type 0 where
  pub callable : (alloc : Global) (old : MutBor (List Tok)) → pre alloc old room
  pub gives : (alloc : Global) (old new : MutBor (List Tok)) (r : Result (WithHeight Stmt) ReadFault) → post alloc old room r new
      → Gives (height_view stmt_tree) (stmt cap room old.now) r new.now
  pub low : (alloc : Global) (old new : MutBor (List Tok)) (r : Result (WithHeight Stmt) ReadFault) → post alloc old room r new → IfOk r (λ x. x.1 ≤ room)

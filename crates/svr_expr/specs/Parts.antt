-- What the code answers, and what it calls for the parts of an expression.
use Rattle.std.specs.Prelude.{ℕ, ◌+◌, ◌≤◌, max, false, List, Result, IfOk}
use Rattle.std.specs.declared.alloc.Global.{Global}
use denote.Ref.{MutBor}
use Rattle.svr_token.specs.declared.NameKind.{NameKind}
use Rattle.svr_token.specs.declared.Mark.TheVariants as m
use Rattle.svr_tree.specs.Tokens.{Tok}
use Rattle.svr_tree.specs.declared.expr.Expr.{Expr}
use Rattle.svr_tree.specs.ExprTree.{ExprTree, expr_tree, bit_select, part_select}
use Rattle.svr_tree.specs.Operators.{implication_level}
use Rattle.svr_reader.specs.declared.fault.ReadFault.{ReadFault}
use Rattle.svr_reader.specs.declared.fixed.Fixed.TheVariants as f
use Rattle.svr_reader.specs.Program.{pure, expect, call}
use Rattle.svr_reader.specs.Answers.{Gives}
use Rattle.svr_reader.specs.Calls.{cap, height_view}
use Rattle.svr_reader.specs.Lists.{◌>>=◌, ◌>>◌, WithHeight}
use Rattle.svr_expr.specs.ExprRules.{Rule, expr}

-- an expression seen as data, with the kind of its last name
abbrev pub kind_view : Expr × NameKind → ExprTree × NameKind
kind_view x = (expr_tree x.0, x.1)

-- the end of a bit-select of which the rest was read, and is as high as the number
abbrev pub bit_of : ℕ → ExprTree → ExprTree → ℕ → Rule (WithHeight ExprTree)
bit_of at base index height = do
  expect (f.Mark m.CloseBracket)
  pure (bit_select at base index false, height + 1)

-- the last bound of a part-select of which the rest was read, and is as high as the last number
abbrev pub last_of : ℕ → ExprTree → ExprTree → ℕ → Rule (WithHeight ExprTree)
last_of at base first height = do
  last ← call implication_level
  expect (f.Mark m.CloseBracket)
  pure (part_select at base first last.0 false, max height last.1 + 1)

-- a function that reads the expressions one level below
pub record Nests (room : ℕ) (pre : Global → MutBor (List Tok) → ℕ → ℕ → Type 0)
    (post : Global → MutBor (List Tok) → ℕ → ℕ → Result (Expr × ℕ) ReadFault → MutBor (List Tok) → Type 0) : Type 0 where
  pub callable : (alloc : Global) (old : MutBor (List Tok)) (least : ℕ) → pre alloc old room least
  pub gives : (alloc : Global) (old new : MutBor (List Tok)) (least : ℕ) (r : Result (WithHeight Expr) ReadFault) → post alloc old room least r new
      → Gives (height_view expr_tree) (expr cap room least old.now) r new.now
  pub low : (alloc : Global) (old new : MutBor (List Tok)) (least : ℕ) (r : Result (WithHeight Expr) ReadFault) → post alloc old room least r new → IfOk r (λ x. x.1 ≤ room)

-- The productions of constraint items, as programs (IEEE 1800-2017, A.1.10). Each answer has its height beside it.
use Rattle.std.specs.Prelude.{ℕ, zero, suc, ◌+◌, max, Bool, true, false, List, [], ◌∷◌, Option, Some, None}
use Rattle.svr_token.specs.declared.Lexeme.{Lexeme}
use Rattle.svr_token.specs.declared.Lexeme.TheVariants as lexeme
use Rattle.svr_token.specs.declared.Word.TheVariants as w
use Rattle.svr_token.specs.declared.Mark.TheVariants as m
use Rattle.svr_operator.specs.declared.Share.{Share}
use Rattle.svr_operator.specs.declared.Share.TheVariants as share
use Rattle.svr_tree.specs.ExprTree.{ExprTree, RangeTree, exprs_of}
use Rattle.svr_tree.specs.ItemTree.{DistItemTree, DistTree, ItemTree, plain, unique, implies, branch, foreach, disable, solve, no_items, more_items, SetTree, set, ElseTree, no_else, else_set, items_of}
use Rattle.svr_reader.specs.Outcomes.{Parser}
use Rattle.svr_reader.specs.declared.fixed.Fixed.TheVariants as f
use Rattle.svr_reader.specs.Program.{Program, pure, peek, here, take, enter, call, run, expect}
use Rattle.svr_reader.specs.Lists.{◌>>=◌, ◌>>◌, WithHeight, no_room, led, listing, until, name}
use Rattle.svr_expr.specs.ExprRules.{Node, an_expr, a_path, a_member, rest_of_operand, expr_starts, node, a_range}

-- ---- what an item calls for, one level below

pub data Part : Type 0 where
  -- an expression, a path, a member of `unique`, or an expression behind its first operand
  a_node : Node → Part
  -- a range of a `dist` set
  a_set_range : Part
  an_item : Part

-- what a call gives
abbrev pub Ans : Part → Type 0
Ans (a_node k) = WithHeight ExprTree
Ans a_set_range = WithHeight RangeTree
Ans an_item = WithHeight ItemTree

abbrev pub Rule : Type 0 → Type 1
Rule A = Program Part Ans A

-- ---- `dist`

unfoldable pub weight_of : Share → Rule (WithHeight (Option (Share × ExprTree)))
weight_of s = do
  take
  x ← call (a_node (an_expr 1))
  pure (Some (s, x.0), x.1)

abbrev pub weight_by : Option Lexeme → Rule (WithHeight (Option (Share × ExprTree)))
weight_by (Some (lexeme.Mark m.ColonEqual)) = weight_of share.Each
weight_by (Some (lexeme.Mark m.ColonSlash)) = weight_of share.Whole
weight_by _ = pure (None, 0)

-- A.1.10: [ dist_weight ]
unfoldable pub weight : Rule (WithHeight (Option (Share × ExprTree)))
weight = peek >>= weight_by

-- A.1.10: dist_item
unfoldable pub dist_item : Rule (WithHeight DistItemTree)
dist_item = do
  span ← call a_set_range
  g ← weight
  pure (record { range = span.0; weight = g.0 }, max span.1 g.1)

unfoldable pub dist_on : Rule (WithHeight (Option DistTree))
dist_on = do
  at ← take
  expect (f.Mark m.OpenBrace)
  ds ← listing dist_item
  expect (f.Mark m.CloseBrace)
  pure (Some (record { at = at; items = ds.0 }), ds.1)

abbrev pub dist_by : Option Lexeme → Rule (WithHeight (Option DistTree))
dist_by (Some (lexeme.Word w.Dist)) = dist_on
dist_by _ = pure (None, 0)

-- [ "dist" "{" dist_list "}" ]
unfoldable pub dist : Rule (WithHeight (Option DistTree))
dist = peek >>= dist_by

-- ---- sets

-- { item } "}"
unfoldable pub items : Rule (WithHeight (List ItemTree))
items = until (f.Mark m.CloseBrace) (call an_item)

unfoldable pub braced_set : Rule (WithHeight SetTree)
braced_set = do
  is ← items
  pure (set true (items_of is.0), is.1)

unfoldable pub single_set : Rule (WithHeight SetTree)
single_set = do
  x ← call an_item
  pure (set false (more_items x.0 no_items), x.1)

-- A.1.10: constraint_set
unfoldable pub item_set : Rule (WithHeight SetTree)
item_set = led (f.Mark m.OpenBrace) braced_set single_set

unfoldable pub else_branch : Rule (WithHeight ElseTree)
else_branch = do
  s ← item_set
  pure (else_set s.0, s.1)

-- [ "else" constraint_set ]
unfoldable pub otherwise : Rule (WithHeight ElseTree)
otherwise = led (f.Word w.Else) else_branch (pure (no_else, 0))

-- ---- items that begin with an expression, which begins at `at`

-- what follows the expression of an item: [ dist ] ";"
unfoldable pub plain_on : ℕ → Bool → WithHeight ExprTree → Rule (WithHeight ItemTree)
plain_on at soft e = do
  d ← dist
  expect (f.Mark m.Semicolon)
  pure (plain at soft e.0 d.0, max e.1 d.1 + 1)

-- "->" constraint_set
unfoldable pub implies_on : ℕ → WithHeight ExprTree → Rule (WithHeight ItemTree)
implies_on at t = do
  take
  body ← item_set
  pure (implies at t.0 body.0, max t.1 body.1 + 1)

-- "<->" expression ";"
unfoldable pub equivalent_on : ℕ → WithHeight ExprTree → Rule (WithHeight ItemTree)
equivalent_on at left = do
  whole ← call (a_node (rest_of_operand at left))
  expect (f.Mark m.Semicolon)
  pure (plain at false whole.0 None, whole.1 + 1)

abbrev pub expr_item_by : ℕ → WithHeight ExprTree → Option Lexeme → Rule (WithHeight ItemTree)
expr_item_by at e (Some (lexeme.Mark m.Arrow)) = implies_on at e
expr_item_by at e (Some (lexeme.Mark m.DoubleArrow)) = equivalent_on at e
expr_item_by at e _ = plain_on at false e

unfoldable pub expr_item_on : ℕ → WithHeight ExprTree → Rule (WithHeight ItemTree)
expr_item_on at e = peek >>= expr_item_by at e

unfoldable pub expr_item : Rule (WithHeight ItemTree)
expr_item = do
  at ← here
  e ← call (a_node (an_expr 2))
  expr_item_on at e

-- ---- items that a word leads

unfoldable pub soft_item : Rule (WithHeight ItemTree)
soft_item = do
  at ← enter 1
  e ← call (a_node (an_expr 1))
  plain_on at true e

-- A.1.10: uniqueness_constraint
unfoldable pub unique_item : Rule (WithHeight ItemTree)
unique_item = do
  at ← enter 1
  expect (f.Mark m.OpenBrace)
  members ← listing (call (a_node a_member))
  expect (f.Mark m.CloseBrace)
  expect (f.Mark m.Semicolon)
  pure (unique at (exprs_of members.0), members.1 + 1)

unfoldable pub branch_item : Rule (WithHeight ItemTree)
branch_item = do
  at ← enter 1
  expect (f.Mark m.OpenParen)
  t ← call (a_node (an_expr 1))
  expect (f.Mark m.CloseParen)
  met ← item_set
  unmet ← otherwise
  pure (branch at t.0 met.0 unmet.0, max (max t.1 met.1) unmet.1 + 1)

-- A.6.8: loop_variables, for one dimension or for two
unfoldable pub loop_vars : Rule (List ℕ)
loop_vars = do
  first ← name
  led (f.Mark m.Comma) (do
    second ← name
    pure (first ∷ (second ∷ []))) (pure (first ∷ []))

unfoldable pub foreach_item : Rule (WithHeight ItemTree)
foreach_item = do
  at ← enter 1
  expect (f.Mark m.OpenParen)
  a ← call (a_node a_path)
  expect (f.Mark m.OpenBracket)
  vars ← loop_vars
  expect (f.Mark m.CloseBracket)
  expect (f.Mark m.CloseParen)
  body ← item_set
  pure (foreach at a.0 vars body.0, max a.1 body.1 + 1)

unfoldable pub disable_item : Rule (WithHeight ItemTree)
disable_item = do
  at ← enter 1
  expect (f.Word w.Soft)
  target ← call (a_node a_member)
  expect (f.Mark m.Semicolon)
  pure (disable at target.0, target.1 + 1)

unfoldable pub solve_item : Rule (WithHeight ItemTree)
solve_item = do
  at ← enter 1
  first ← listing (call (a_node a_path))
  expect (f.Word w.Before)
  later ← listing (call (a_node a_path))
  expect (f.Mark m.Semicolon)
  pure (solve at (exprs_of first.0) (exprs_of later.0), max first.1 later.1 + 1)

-- ---- items

abbrev pub item_by : Option Lexeme → Rule (WithHeight ItemTree)
item_by (Some (lexeme.Word w.Soft)) = soft_item
item_by (Some (lexeme.Word w.Unique)) = unique_item
item_by (Some (lexeme.Word w.If)) = branch_item
item_by (Some (lexeme.Word w.Foreach)) = foreach_item
item_by (Some (lexeme.Word w.Disable)) = disable_item
item_by _ = expr_item

-- A.1.10: constraint_expression
unfoldable pub item_in : Rule (WithHeight ItemTree)
item_in = peek >>= item_by

abbrev pub block_item_by : Option Lexeme → Rule (WithHeight ItemTree)
block_item_by (Some (lexeme.Word w.Solve)) = solve_item
block_item_by l = item_by l

-- A.1.10: constraint_block_item
unfoldable pub block_item_in : Rule (WithHeight ItemTree)
block_item_in = peek >>= block_item_by

-- what an item begins with
abbrev pub item_starts : Option Lexeme → Bool
item_starts (Some (lexeme.Word w.Soft)) = true
item_starts (Some (lexeme.Word w.Unique)) = true
item_starts (Some (lexeme.Word w.If)) = true
item_starts (Some (lexeme.Word w.Foreach)) = true
item_starts (Some (lexeme.Word w.Disable)) = true
item_starts l = expr_starts l

-- and an item that stands directly in a block
abbrev pub block_starts : Option Lexeme → Bool
block_starts (Some (lexeme.Word w.Solve)) = true
block_starts l = item_starts l

-- ---- the parsers

-- nodes and ranges of a height up to the second number, and items by the parser that is given
abbrev pub part : ℕ → ℕ → Parser (WithHeight ItemTree) → (k : Part) → Parser (Ans k)
part most r below (a_node k) = node most r k
part most r below a_set_range = a_range most r
part most r below an_item = below

-- an item of a height up to the second number. No list is longer than the first number
unfoldable pub item : ℕ → ℕ → Parser (WithHeight ItemTree)
item most zero i = no_room item_starts i
item most (suc r) i = run most r (part most r (item most r)) item_in i

-- where the parts of an item may be as high as the second number
abbrev pub within : {A : Type 0} → ℕ → ℕ → Rule A → Parser A
within most r p = run most r (part most r (item most r)) p

-- an item that stands directly in a block
unfoldable pub block_item : ℕ → ℕ → Parser (WithHeight ItemTree)
block_item most zero i = no_room block_starts i
block_item most (suc r) i = within most r block_item_in i

-- items of a height up to the second number, up to the closing brace, which is taken
unfoldable pub set_items : ℕ → ℕ → Parser (WithHeight (List ItemTree))
set_items most r = within most r items

-- the same of items that stand directly in a block
unfoldable pub block_items : ℕ → ℕ → Parser (WithHeight (List ItemTree))
block_items most r = run {K = Unit {0}} {Ans = λ u. WithHeight ItemTree} most r (λ u. block_item most r) (until (f.Mark m.CloseBrace) (call tt))

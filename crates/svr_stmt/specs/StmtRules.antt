-- The productions of statements, as programs (IEEE 1800-2017, A.6 and A.8.2). Each answer has its height beside it.
use Rattle.std.specs.Prelude.{ℕ, zero, suc, ◌+◌, max, Bool, true, false, List, [], ◌∷◌, Option, Some, None, Err}
use Rattle.svr_token.specs.declared.Lexeme.{Lexeme}
use Rattle.svr_token.specs.declared.Lexeme.TheVariants as lexeme
use Rattle.svr_token.specs.declared.Word.TheVariants as w
use Rattle.svr_token.specs.declared.Mark.TheVariants as m
use Rattle.svr_token.specs.declared.NameKind.{NameKind}
use Rattle.svr_token.specs.declared.NameKind.TheVariants as name_kind
use Rattle.svr_tree.specs.declared.stmt.RandomizeArgs.{RandomizeArgs}
use Rattle.svr_tree.specs.declared.stmt.RandomizeArgs.TheVariants as args
use Rattle.svr_tree.specs.declared.stmt.ModeKind.{ModeKind}
use Rattle.svr_tree.specs.declared.stmt.ModeKind.TheVariants as mode_kind
use Rattle.svr_tree.specs.declared.stmt.CallForm.{CallForm}
use Rattle.svr_tree.specs.declared.stmt.CallForm.TheVariants as form
use Rattle.svr_tree.specs.ExprTree.{ExprTree, path, exprs_of}
use Rattle.svr_tree.specs.ItemTree.{ItemTree, ItemTrees, items_of}
use Rattle.svr_tree.specs.StmtTree as tree
use Rattle.svr_tree.specs.StmtTree.{StmtTree, RightTree, RandomizeTree, stmts_of}
use Rattle.svr_reader.specs.Outcomes.{Stuck, Parser}
use Rattle.svr_reader.specs.declared.fixed.Fixed.TheVariants as f
use Rattle.svr_reader.specs.Program.{Program, pure, refuse, peek, here, take, enter, call, run, expect}
use Rattle.svr_reader.specs.Lists.{◌>>=◌, ◌>>◌, WithHeight, no_room, led, listing, until, choose, name}
use Rattle.svr_expr.specs.declared.connective.Connective.{Connective}
use Rattle.svr_expr.specs.Connectives.{connective_of}
use Rattle.svr_expr.specs.ExprRules.{Node, an_expr, rest_of_path, rest_of_operand, node, expr, owner, with_parens, path_on, path_starts, a_known_path, a_member_on, some_exprs}
use Rattle.svr_item.specs.ItemRules.{set_items}
use Rattle.svr_stmt.specs.declared.method.Method.{Method}
use Rattle.svr_stmt.specs.declared.method.Method.TheVariants as method

-- ---- what is called one level below

pub data Part : Type 0 where
  a_node : Node → Part
  -- a path, and the kind of its last name
  a_path_here : Part
  -- the rest of a plain path whose first name, of this number and kind, was taken
  a_path_behind : ℕ × NameKind → Part
  -- { "[" expr "]" } behind a path that begins at this token
  indices : ℕ → WithHeight ExprTree → Part
  -- expr { "," expr }
  values : Part
  -- { item } "}"
  set_rest : Part
  a_stmt : Part

-- what each of them gives
abbrev pub Ans : Part → Type 0
Ans (a_node k) = WithHeight ExprTree
Ans a_path_here = ExprTree × NameKind
Ans (a_path_behind first) = ExprTree × NameKind
Ans (indices at base) = WithHeight ExprTree
Ans values = WithHeight (List ExprTree)
Ans set_rest = WithHeight (List ItemTree)
Ans a_stmt = WithHeight StmtTree

abbrev pub Rule : Type 0 → Type 1
Rule A = Program Part Ans A

-- ---- built-in methods

abbrev pub method_of : NameKind → Option Method
method_of name_kind.Plain = None
method_of name_kind.Sum = None
method_of name_kind.Product = None
method_of name_kind.And = None
method_of name_kind.Or = None
method_of name_kind.Xor = None
method_of name_kind.Randomize = Some method.Randomize
method_of name_kind.RandMode = Some (method.Mode mode_kind.Rand)
method_of name_kind.ConstraintMode = Some (method.Mode mode_kind.Constraint)

-- the method that a path of two names or more ends with
abbrev pub path_method : ExprTree × NameKind → Option Method
path_method (path at s (n ∷ (o ∷ ns)) c, k) = method_of k
path_method _ = None

-- ---- calls of `randomize`

-- NAME, as one of a list
unfoldable pub argument : Rule (WithHeight ℕ)
argument = do
  n ← name
  pure (n, 0)

-- "null", or NAME { "," NAME }
abbrev pub call_arguments_by : Option Lexeme → Rule RandomizeArgs
call_arguments_by (Some (lexeme.Word w.Null)) = do
  take
  pure args.Null
call_arguments_by _ = do
  ns ← listing argument
  pure (args.Names ns.0)

unfoldable pub call_arguments : Rule RandomizeArgs
call_arguments = peek >>= call_arguments_by

-- [ "with" "{" { item } "}" ]
unfoldable pub in_line : Rule (WithHeight (Option ItemTrees))
in_line = led (f.Word w.With) (do
  expect (f.Mark m.OpenBrace)
  is ← call set_rest
  pure (Some (items_of is.0), is.1)) (pure (None, 0))

-- the call of a method at the end of a path, behind its `)`
unfoldable pub randomize_end : ExprTree → RandomizeArgs → Rule (WithHeight RandomizeTree)
randomize_end p list = do
  is ← in_line
  pure (record { path = owner p; args = list; items = is.0 }, max 1 is.1)

-- arguments and what follows, where there are some
unfoldable pub randomize_given : ExprTree → Rule (WithHeight RandomizeTree)
randomize_given p = do
  list ← call_arguments
  expect (f.Mark m.CloseParen)
  randomize_end p list

-- the same behind `(`
unfoldable pub randomize_on : ExprTree → Rule (WithHeight RandomizeTree)
randomize_on p = led (f.Mark m.CloseParen) (randomize_end p args.Empty) (randomize_given p)

abbrev pub whole_by : ExprTree → Option Method → Rule (WithHeight RandomizeTree)
whole_by p (Some method.Randomize) = do
  expect (f.Mark m.OpenParen)
  randomize_on p
whole_by p _ = refuse

-- A.8.2: randomize_call, where nothing else may stand
unfoldable pub whole_call : Rule (WithHeight RandomizeTree)
whole_call = do
  p ← call a_path_here
  whole_by p.0 (path_method p)

-- ---- right sides of assignments

-- behind `new`
abbrev pub new_by : Option Lexeme → Rule (WithHeight RightTree)
new_by (Some (lexeme.Mark m.OpenParen)) = do
  take
  expect (f.Mark m.CloseParen)
  pure (tree.new true, 0)
new_by (Some (lexeme.Mark m.OpenBracket)) = do
  take
  n ← call (a_node (an_expr 1))
  expect (f.Mark m.CloseBracket)
  pure (tree.new_array n.0, n.1)
new_by _ = pure (tree.new false, 0)

-- A.2.4: class_new, dynamic_array_new
unfoldable pub new_right : Rule (WithHeight RightTree)
new_right = do
  take
  peek >>= new_by

-- A.6.7.1: assignment_pattern
unfoldable pub pattern_right : Rule (WithHeight RightTree)
pattern_right = do
  at ← take
  led (f.Mark m.CloseBrace) (pure (tree.pattern at (exprs_of []), 0)) (do
    es ← call values
    expect (f.Mark m.CloseBrace)
    pure (tree.pattern at (exprs_of es.0), es.1))

unfoldable pub value_right : Node → Rule (WithHeight RightTree)
value_right k = do
  e ← call (a_node k)
  pure (tree.value e.0, e.1)

unfoldable pub answer_right : Rule (WithHeight RandomizeTree) → Rule (WithHeight RightTree)
answer_right p = do
  c ← p
  pure (tree.answer c.0, c.1)

-- an operator of table 11-2 follows
abbrev pub is_connective : Option Connective → Bool
is_connective (Some k) = true
is_connective None = false

-- behind `path.randomize()`: an operator makes it an operand
unfoldable pub behind_parens : ℕ → ExprTree → Rule (WithHeight RightTree)
behind_parens at p = do
  l ← peek
  choose (is_connective (connective_of l)) (value_right (rest_of_operand at (with_parens p, 1))) (answer_right (randomize_end p args.Empty))

-- behind `path.randomize(`
unfoldable pub behind_open : ℕ → ExprTree → Rule (WithHeight RightTree)
behind_open at p = led (f.Mark m.CloseParen) (behind_parens at p) (answer_right (randomize_given p))

-- behind a path, where its last name is read as no method of a statement
unfoldable pub behind_path : ℕ → ExprTree × NameKind → Rule (WithHeight RightTree)
behind_path at p = value_right (rest_of_path at p)

abbrev pub path_right_by : ℕ → ExprTree × NameKind → Option Method → Rule (WithHeight RightTree)
path_right_by at p (Some method.Randomize) = led (f.Mark m.OpenParen) (behind_open at p.0) (behind_path at p)
path_right_by at p _ = behind_path at p

unfoldable pub path_right : Rule (WithHeight RightTree)
path_right = do
  at ← here
  p ← call a_path_here
  path_right_by at p (path_method p)

abbrev pub right_by : Option Lexeme → Rule (WithHeight RightTree)
right_by (Some (lexeme.Word w.New)) = new_right
right_by (Some (lexeme.Mark m.OpenPattern)) = pattern_right
right_by l = choose (path_starts l) path_right (value_right (an_expr 1))

unfoldable pub right_in : Rule (WithHeight RightTree)
right_in = peek >>= right_by

-- ---- statements that begin with a path; `at` is where it begins

-- A.6.2: blocking_assignment
unfoldable pub assign_on : ℕ → ExprTree → Rule (WithHeight StmtTree)
assign_on at p = do
  target ← call (indices at (p, 1))
  expect (f.Mark m.Assign)
  right ← right_in
  expect (f.Mark m.Semicolon)
  pure (tree.assign at target.0 right.0, max target.1 right.1 + 1)

-- a call without `void'` and `assert`, behind `(`
unfoldable pub call_on : ℕ → ExprTree → Rule (WithHeight StmtTree)
call_on at p = do
  c ← randomize_on p
  expect (f.Mark m.Semicolon)
  pure (tree.call at form.Plain c.0, c.1 + 1)

-- 18.8 and 18.9: the built-in methods `rand_mode` and `constraint_mode`, behind `(`
unfoldable pub mode_on : ℕ → ExprTree → ModeKind → Rule (WithHeight StmtTree)
mode_on at p k = do
  on ← call (a_node (an_expr 1))
  expect (f.Mark m.CloseParen)
  expect (f.Mark m.Semicolon)
  pure (tree.mode at (record { path = owner p; kind = k; on = on.0 }), max 1 on.1 + 1)

abbrev pub method_by : ℕ → ExprTree → Method → Rule (WithHeight StmtTree)
method_by at p method.Randomize = call_on at p
method_by at p (method.Mode k) = mode_on at p k

abbrev pub behind_by : ℕ → ExprTree → Option Method → Rule (WithHeight StmtTree)
behind_by at p None = assign_on at p
behind_by at p (Some k) = led (f.Mark m.OpenParen) (method_by at p k) (assign_on at p)

unfoldable pub behind_target : ℕ → ExprTree × NameKind → Rule (WithHeight StmtTree)
behind_target at p = behind_by at p.0 (path_method p)

unfoldable pub path_stmt : Rule (WithHeight StmtTree)
path_stmt = do
  at ← here
  p ← call a_path_here
  behind_target at p

-- the same where the first name was taken
unfoldable pub stmt_from : ℕ × NameKind → Rule (WithHeight StmtTree)
stmt_from first = do
  p ← call (a_path_behind first)
  behind_target first.0 p

-- ---- statements that begin with a word or a mark

unfoldable pub empty_stmt : Rule (WithHeight StmtTree)
empty_stmt = do
  at ← enter 0
  pure (tree.empty at, 1)

-- A.6.3: seq_block
unfoldable pub block_stmt : Rule (WithHeight StmtTree)
block_stmt = do
  at ← enter 0
  ss ← until (f.Word w.End) (call a_stmt)
  pure (tree.block at (stmts_of ss.0), ss.1 + 1)

-- A.6.8: loop_statement
unfoldable pub repeat_stmt : Rule (WithHeight StmtTree)
repeat_stmt = do
  at ← enter 1
  expect (f.Mark m.OpenParen)
  n ← call (a_node (an_expr 1))
  expect (f.Mark m.CloseParen)
  s ← call a_stmt
  pure (tree.repeat at n.0 s.0, max n.1 s.1 + 1)

-- a call in parentheses, and `;`
unfoldable pub enclosed_call : ℕ → CallForm → Rule (WithHeight StmtTree)
enclosed_call at k = do
  expect (f.Mark m.OpenParen)
  c ← whole_call
  expect (f.Mark m.CloseParen)
  expect (f.Mark m.Semicolon)
  pure (tree.call at k c.0, c.1 + 1)

-- A.6.4: subroutine_call_statement
unfoldable pub void_stmt : Rule (WithHeight StmtTree)
void_stmt = do
  at ← enter 1
  expect (f.Mark m.Apostrophe)
  enclosed_call at form.Void

-- A.6.10: simple_immediate_assert_statement
unfoldable pub assert_stmt : Rule (WithHeight StmtTree)
assert_stmt = do
  at ← enter 1
  enclosed_call at form.Assert

abbrev pub stmt_by : Option Lexeme → Rule (WithHeight StmtTree)
stmt_by (Some (lexeme.Mark m.Semicolon)) = empty_stmt
stmt_by (Some (lexeme.Word w.Begin)) = block_stmt
stmt_by (Some (lexeme.Word w.Repeat)) = repeat_stmt
stmt_by (Some (lexeme.Word w.Void)) = void_stmt
stmt_by (Some (lexeme.Word w.Assert)) = assert_stmt
stmt_by _ = path_stmt

-- A.6.4: statement
unfoldable pub stmt_in : Rule (WithHeight StmtTree)
stmt_in = peek >>= stmt_by

-- ---- what other productions call for

-- what a statement begins with
abbrev pub stmt_starts : Option Lexeme → Bool
stmt_starts (Some (lexeme.Mark m.Semicolon)) = true
stmt_starts (Some (lexeme.Word w.Begin)) = true
stmt_starts (Some (lexeme.Word w.Repeat)) = true
stmt_starts (Some (lexeme.Word w.Void)) = true
stmt_starts (Some (lexeme.Word w.Assert)) = true
stmt_starts l = path_starts l

-- the rest of a plain path behind its first name, where a node may be as high as the second number. Nothing is said where there is no room for the path
unfoldable pub a_path_on : ℕ → ℕ → ℕ × NameKind → Parser (ExprTree × NameKind)
a_path_on most zero first i = Err Stuck
a_path_on most (suc r) first i = run most r (expr most r) (path_on first) i

-- the parts of a statement, where each may be as high as the second number, by a parser of statements
abbrev pub part : ℕ → ℕ → Parser (WithHeight StmtTree) → (k : Part) → Parser (Ans k)
part most r below (a_node k) i = node most r k i
part most r below a_path_here i = a_known_path most r i
part most r below (a_path_behind first) i = a_path_on most r first i
part most r below (indices at base) i = a_member_on most r at base i
part most r below values i = some_exprs most r i
part most r below set_rest i = set_items most r i
part most r below a_stmt i = below i

-- a statement of a height up to the second number. No list is longer than the first number
unfoldable pub stmt : ℕ → ℕ → Parser (WithHeight StmtTree)
stmt most zero i = no_room stmt_starts i
stmt most (suc r) i = run most r (part most r (stmt most r)) stmt_in i

-- what a production reads where its parts may be as high as the second number
abbrev pub within : {A : Type 0} → ℕ → ℕ → Rule A → Parser A
within most r p = run most r (part most r (stmt most r)) p

-- a statement whose first token, the first name of a plain path, was taken already. Nothing is said where there is no room for one
unfoldable pub stmt_on : ℕ → ℕ → ℕ × NameKind → Parser (WithHeight StmtTree)
stmt_on most zero first i = Err Stuck
stmt_on most (suc r) first i = within most r (stmt_from first) i

-- Statements: what they spell, which may stand under which, how high they are (IEEE 1800-2017, A.6 and A.8.2).
use Rattle.std.specs.Prelude.{◌≡◌, ℕ, ◌+◌, max, true, List, [], ◌∷◌, ◌++◌, Option, Some, None}
use Rattle.svr_token.specs.declared.Lexeme.TheVariants as lexeme
use Rattle.svr_token.specs.declared.Word.TheVariants as w
use Rattle.svr_token.specs.declared.Mark.TheVariants as m
use Rattle.svr_token.specs.declared.NameKind.{NameKind}
use Rattle.svr_token.specs.declared.NameKind.TheVariants as name_kind
use Rattle.svr_tree.specs.declared.stmt.RandomizeArgs.{RandomizeArgs}
use Rattle.svr_tree.specs.declared.stmt.RandomizeArgs.TheVariants as args
use Rattle.svr_tree.specs.declared.stmt.ModeKind.{ModeKind}
use Rattle.svr_tree.specs.declared.stmt.ModeKind.TheVariants as mode_kind
use Rattle.svr_tree.specs.declared.stmt.CallForm.{CallForm}
use Rattle.svr_tree.specs.declared.stmt.CallForm.TheVariants as form
use Rattle.svr_tree.specs.ExprTree.{ExprTree, path}
use Rattle.svr_tree.specs.ItemTree.{ItemTrees}
use Rattle.svr_tree.specs.StmtTree.{RandomizeTree, ModeTree, RightTree, value, new, new_array, pattern, answer, StmtTree, empty, block, repeat, assign, call, mode, StmtTrees, no_stmts, more_stmts}
use Rattle.svr_tree.specs.Tokens.{Entry, Any, Name, OtherName, word, word_on, mark, mark_on, names_listed}
use Rattle.svr_tree.specs.ExprGrammar.{scope_spelling, parens_spelling, expr_spelling, exprs_spelling, start, IsExpr, EachIsExpr, expr_height, exprs_height}
use Rattle.svr_tree.specs.ItemGrammar.{items_spelling, IsPath, IsMember, AreItems, items_height}

-- ---- what a tree spells

-- "." and the name of a built-in method
abbrev pub method : NameKind → List Entry → List Entry
method k es = mark m.Dot ∷ (Any (lexeme.Name k) ∷ (mark m.OpenParen ∷ es))

abbrev pub args_spelling : RandomizeArgs → List Entry
args_spelling args.Empty = []
args_spelling args.Null = word w.Null ∷ []
args_spelling (args.Names ns) = names_listed ns

-- [ "with" constraint_block ]
abbrev pub with_spelling : Option ItemTrees → List Entry
with_spelling None = []
with_spelling (Some is) = word w.With ∷ (mark m.OpenBrace ∷ (items_spelling is ++ mark m.CloseBrace ∷ []))

-- A.8.2: randomize_call. The path ends before the name `randomize`.
abbrev pub randomize_spelling : RandomizeTree → List Entry
randomize_spelling c = expr_spelling c.path ++ method name_kind.Randomize (args_spelling c.args ++ mark m.CloseParen ∷ with_spelling c.items)

abbrev pub mode_name : ModeKind → NameKind
mode_name mode_kind.Rand = name_kind.RandMode
mode_name mode_kind.Constraint = name_kind.ConstraintMode

-- 18.8 and 18.9: the built-in methods `rand_mode` and `constraint_mode`
abbrev pub mode_spelling : ModeTree → List Entry
mode_spelling c = expr_spelling c.path ++ method (mode_name c.kind) (expr_spelling c.on ++ mark m.CloseParen ∷ [])

-- { "." NAME }, the last name being none of `randomize`
abbrev pub dotted_other : List ℕ → List Entry
dotted_other [] = []
dotted_other (n ∷ []) = mark m.Dot ∷ (OtherName n ∷ [])
dotted_other (n ∷ (o ∷ ns)) = mark m.Dot ∷ (Name n ∷ dotted_other (o ∷ ns))

abbrev pub other_names : List ℕ → List Entry
other_names [] = []
other_names (n ∷ ns) = Name n ∷ dotted_other ns

-- an expression that is a whole right side: `path.randomize()` is a call instead
abbrev pub value_spelling : ExprTree → List Entry
value_spelling (path at s names true) = scope_spelling at s ++ (other_names names ++ parens_spelling true)
value_spelling e = expr_spelling e

abbrev pub right_spelling : RightTree → List Entry
right_spelling (value e) = value_spelling e
-- A.2.4: class_new, dynamic_array_new
right_spelling (new parens) = word w.New ∷ parens_spelling parens
right_spelling (new_array n) = word w.New ∷ (mark m.OpenBracket ∷ (expr_spelling n ++ mark m.CloseBracket ∷ []))
-- A.6.7.1: assignment_pattern
right_spelling (pattern at values) = mark_on at m.OpenPattern ∷ (exprs_spelling values ++ mark m.CloseBrace ∷ [])
right_spelling (answer c) = randomize_spelling c

-- A.6.4: subroutine_call_statement, A.6.10: simple_immediate_assert_statement
abbrev pub call_spelling : ℕ → CallForm → RandomizeTree → List Entry
call_spelling at form.Plain c = randomize_spelling c ++ mark m.Semicolon ∷ []
call_spelling at form.Void c = word_on at w.Void ∷ (mark m.Apostrophe ∷ (mark m.OpenParen ∷ (randomize_spelling c ++ mark m.CloseParen ∷ (mark m.Semicolon ∷ []))))
call_spelling at form.Assert c = word_on at w.Assert ∷ (mark m.OpenParen ∷ (randomize_spelling c ++ mark m.CloseParen ∷ (mark m.Semicolon ∷ [])))

abbrev mutual
  -- A.6.4: statement
  pub stmt_spelling : StmtTree → List Entry
  stmt_spelling (empty at) = mark_on at m.Semicolon ∷ []
  -- A.6.3: seq_block
  stmt_spelling (block at ss) = word_on at w.Begin ∷ (stmts_spelling ss ++ word w.End ∷ [])
  -- A.6.8: loop_statement
  stmt_spelling (repeat at n s) = word_on at w.Repeat ∷ (mark m.OpenParen ∷ (expr_spelling n ++ mark m.CloseParen ∷ stmt_spelling s))
  -- A.6.2: blocking_assignment
  stmt_spelling (assign at target right) = expr_spelling target ++ mark m.Assign ∷ (right_spelling right ++ mark m.Semicolon ∷ [])
  stmt_spelling (call at f c) = call_spelling at f c
  stmt_spelling (mode at c) = mode_spelling c ++ mark m.Semicolon ∷ []

  pub stmts_spelling : StmtTrees → List Entry
  stmts_spelling no_stmts = []
  stmts_spelling (more_stmts s ss) = stmt_spelling s ++ stmts_spelling ss

-- ---- which tree may stand under which

abbrev pub AreArgs : RandomizeArgs → Type 0
AreArgs args.Empty = Unit {0}
AreArgs args.Null = Unit {0}
AreArgs (args.Names []) = ⊥
AreArgs (args.Names (n ∷ ns)) = Unit {0}

abbrev pub IsWith : Option ItemTrees → Type 0
IsWith None = Unit {0}
IsWith (Some is) = AreItems is

abbrev pub IsRandomize : RandomizeTree → Type 0
IsRandomize c = IsPath c.path × AreArgs c.args × IsWith c.items

abbrev pub IsMode : ModeTree → Type 0
IsMode c = IsPath c.path × IsExpr c.on

abbrev pub IsRight : RightTree → Type 0
IsRight (value e) = IsExpr e
IsRight (new parens) = Unit {0}
IsRight (new_array n) = IsExpr n
-- none or more
IsRight (pattern at values) = EachIsExpr values
IsRight (answer c) = IsRandomize c

-- a call without `void'` and `assert` begins with its path
abbrev pub IsCallAt : ℕ → CallForm → RandomizeTree → Type 0
IsCallAt at form.Plain c = at ≡ start c.path
IsCallAt at form.Void c = Unit {0}
IsCallAt at form.Assert c = Unit {0}

abbrev mutual
  pub IsStmt : StmtTree → Type 0
  IsStmt (empty at) = Unit {0}
  IsStmt (block at ss) = AreStmts ss
  IsStmt (repeat at n s) = IsExpr n × IsStmt s
  IsStmt (assign at target right) = (at ≡ start target) × IsMember target × IsRight right
  IsStmt (call at f c) = IsCallAt at f c × IsRandomize c
  IsStmt (mode at c) = (at ≡ start c.path) × IsMode c

  pub AreStmts : StmtTrees → Type 0
  AreStmts no_stmts = Unit {0}
  AreStmts (more_stmts s ss) = IsStmt s × AreStmts ss

-- ---- how high a tree is

abbrev pub with_height : Option ItemTrees → ℕ
with_height None = 0
with_height (Some is) = items_height is

abbrev pub randomize_height : RandomizeTree → ℕ
randomize_height c = max (expr_height c.path) (with_height c.items)

abbrev pub right_height : RightTree → ℕ
right_height (value e) = expr_height e
right_height (new parens) = 0
right_height (new_array n) = expr_height n
right_height (pattern at values) = exprs_height values
right_height (answer c) = randomize_height c

abbrev mutual
  pub stmt_height : StmtTree → ℕ
  stmt_height (empty at) = 1
  stmt_height (block at ss) = stmts_height ss + 1
  stmt_height (repeat at n s) = max (expr_height n) (stmt_height s) + 1
  stmt_height (assign at target right) = max (expr_height target) (right_height right) + 1
  stmt_height (call at f c) = randomize_height c + 1
  stmt_height (mode at c) = max (expr_height c.path) (expr_height c.on) + 1

  pub stmts_height : StmtTrees → ℕ
  stmts_height no_stmts = 0
  stmts_height (more_stmts s ss) = max (stmt_height s) (stmts_height ss)

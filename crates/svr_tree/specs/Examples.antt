-- Short texts and trees that say how the grammar groups them.
use Rattle.std.specs.Prelude.{ℕ, suc, zero, ◌+◌, true, false, List, [], ◌∷◌, None}
use Rattle.svr_token.specs.declared.Lexeme.{Lexeme}
use Rattle.svr_token.specs.declared.Lexeme.TheVariants as lexeme
use Rattle.svr_token.specs.declared.Word.{Word}
use Rattle.svr_token.specs.declared.Word.TheVariants as w
use Rattle.svr_token.specs.declared.Mark.{Mark}
use Rattle.svr_token.specs.declared.Mark.TheVariants as m
use Rattle.svr_token.specs.declared.NameKind.TheVariants as name_kind
use Rattle.svr_operator.specs.declared.BinOp.TheVariants as b
use Rattle.svr_operator.specs.declared.Fold.TheVariants as fold
use Rattle.svr_tree.specs.declared.expr.Scope.TheVariants as scope
use Rattle.svr_tree.specs.declared.expr.IteratorArgument.TheVariants as iterator
use Rattle.svr_tree.specs.declared.script.UnitKind.TheVariants as unit_kind
use Rattle.svr_tree.specs.declared.stmt.RandomizeArgs.TheVariants as args
use Rattle.svr_tree.specs.declared.stmt.CallForm.TheVariants as form
use Rattle.svr_tree.specs.ExprTree.{ExprTree, number, path, binary, inside, join, paren, reduce, no_exprs, more_exprs, no_ranges, more_ranges, one}
use Rattle.svr_tree.specs.ItemTree.{ItemTree, plain, implies, branch, foreach, no_items, more_items, SetTree, set, no_else, else_set}
use Rattle.svr_tree.specs.StmtTree.{value, answer, StmtTree, block, assign, call, no_stmts}
use Rattle.svr_tree.specs.ScriptTree.{ScriptTree}
use Rattle.svr_tree.specs.Tokens.{Tok, numbered}

-- ---- tokens, numbered from 0

abbrev pub text : List Lexeme → List Tok
text ls = numbered 0 ls

abbrev pub x : Lexeme
x = lexeme.Name name_kind.Plain

abbrev pub k : Mark → Lexeme
k mark = lexeme.Mark mark

abbrev pub kw : Word → Lexeme
kw word = lexeme.Word word

abbrev pub digit : ℕ → Lexeme
digit n = lexeme.Literal n 32 true

-- ---- trees of one token, and sets of one item

-- the name that is token n
abbrev pub name : ℕ → ExprTree
name n = path n scope.Plain (n ∷ []) false

-- the literal of value v that is token n
abbrev pub literal : ℕ → ℕ → ExprTree
literal n v = number n v 32 true

-- `x;`
abbrev pub stated : ℕ → ItemTree
stated n = plain n false (name n) None

abbrev pub alone : ItemTree → SetTree
alone i = set false (more_items i no_items)

abbrev pub braced : ItemTree → SetTree
braced i = set true (more_items i no_items)

-- ---- a - b - c

abbrev pub difference : List Tok
difference = text (x ∷ k m.Minus ∷ x ∷ k m.Minus ∷ x ∷ [])

-- (a - b) - c
abbrev pub difference_left : ExprTree
difference_left = binary 0 b.Subtract (binary 0 b.Subtract (name 0) (name 2)) (name 4)

-- a - (b - c)
abbrev pub difference_right : ExprTree
difference_right = binary 0 b.Subtract (name 0) (binary 2 b.Subtract (name 2) (name 4))

-- ---- soft a -> b -> c;

abbrev pub soft_implication : List Tok
soft_implication = text (kw w.Soft ∷ x ∷ k m.Arrow ∷ x ∷ k m.Arrow ∷ x ∷ k m.Semicolon ∷ [])

-- a and b -> c
abbrev pub soft_right : ItemTree
soft_right = plain 0 true (binary 1 b.Implies (name 1) (binary 3 b.Implies (name 3) (name 5))) None

-- a -> b and c
abbrev pub soft_left : ItemTree
soft_left = plain 0 true (binary 1 b.Implies (binary 1 b.Implies (name 1) (name 3)) (name 5)) None

-- ---- a -> b -> c;

abbrev pub implication : List Tok
implication = text (x ∷ k m.Arrow ∷ x ∷ k m.Arrow ∷ x ∷ k m.Semicolon ∷ [])

-- the implication item, twice
abbrev pub implication_item : ItemTree
implication_item = implies 0 (name 0) (alone (implies 2 (name 2) (alone (stated 4))))

-- the operator
abbrev pub implication_operator : ItemTree
implication_operator = plain 0 false (binary 0 b.Implies (name 0) (binary 2 b.Implies (name 2) (name 4))) None

-- ---- a <-> b -> c;

abbrev pub equivalence : List Tok
equivalence = text (x ∷ k m.DoubleArrow ∷ x ∷ k m.Arrow ∷ x ∷ k m.Semicolon ∷ [])

abbrev pub equivalence_item : ItemTree
equivalence_item = plain 0 false (binary 0 b.Equivalent (name 0) (binary 2 b.Implies (name 2) (name 4))) None

-- ---- a inside {1} * 2

abbrev pub inside_times : List Tok
inside_times = text (x ∷ kw w.Inside ∷ k m.OpenBrace ∷ digit 1 ∷ k m.CloseBrace ∷ k m.Star ∷ digit 2 ∷ [])

abbrev pub inside_times_tree : ExprTree
inside_times_tree = binary 0 b.Multiply (inside 0 (name 0) (more_ranges (one (literal 3 1)) no_ranges)) (literal 6 2)

-- ---- if (a) if (b) c; else d;

abbrev pub branches : List Tok
branches = text (kw w.If ∷ k m.OpenParen ∷ x ∷ k m.CloseParen ∷ kw w.If ∷ k m.OpenParen ∷ x ∷ k m.CloseParen ∷ x ∷ k m.Semicolon ∷ kw w.Else ∷ x ∷ k m.Semicolon ∷ [])

-- the `else` belongs to the second `if`
abbrev pub else_of_second : ItemTree
else_of_second = branch 0 (name 2) (alone (branch 4 (name 6) (alone (stated 8)) (else_set (alone (stated 11))))) no_else

-- the `else` belongs to the first `if`
abbrev pub else_of_first : ItemTree
else_of_first = branch 0 (name 2) (alone (branch 4 (name 6) (alone (stated 8)) no_else)) (else_set (alone (stated 11)))

-- ---- if (a) { if (b) c; } else d;

abbrev pub braced_branches : List Tok
braced_branches = text (kw w.If ∷ k m.OpenParen ∷ x ∷ k m.CloseParen ∷ k m.OpenBrace ∷ kw w.If ∷ k m.OpenParen ∷ x ∷ k m.CloseParen ∷ x ∷ k m.Semicolon ∷ k m.CloseBrace ∷ kw w.Else ∷ x ∷ k m.Semicolon ∷ [])

abbrev pub braced_else : ItemTree
braced_else = branch 0 (name 2) (braced (branch 5 (name 7) (alone (stated 9)) no_else)) (else_set (alone (stated 13)))

-- ---- a -> { b; }

abbrev pub implied_set : List Tok
implied_set = text (x ∷ k m.Arrow ∷ k m.OpenBrace ∷ x ∷ k m.Semicolon ∷ k m.CloseBrace ∷ [])

abbrev pub implied_set_tree : ItemTree
implied_set_tree = implies 0 (name 0) (braced (stated 3))

-- ---- {b} == c; and a -> {b} == c;

-- `{b} == c;` from token n on
abbrev pub joined : ℕ → ItemTree
joined n = plain n false (binary n b.Equal (join n (more_exprs (name (n + 1)) no_exprs)) (name (n + 4))) None

abbrev pub joined_text : List Tok
joined_text = text (k m.OpenBrace ∷ x ∷ k m.CloseBrace ∷ k m.Equal ∷ x ∷ k m.Semicolon ∷ [])

abbrev pub implied_join : ItemTree
implied_join = implies 0 (name 0) (alone (joined 2))

-- ---- d.sum() with (item), d.sum() and d.sum(e) with (e)

abbrev pub sum_name : Lexeme
sum_name = lexeme.Name name_kind.Sum

-- `d.sum` and more
abbrev pub sum_text : List Lexeme → List Tok
sum_text more = text (x ∷ k m.Dot ∷ sum_name ∷ more)

abbrev pub with_body : List Lexeme
with_body = kw w.With ∷ k m.OpenParen ∷ x ∷ k m.CloseParen ∷ []

abbrev pub sum_with : List Tok
sum_with = sum_text (k m.OpenParen ∷ k m.CloseParen ∷ with_body)

abbrev pub sum_with_tree : ExprTree
sum_with_tree = reduce 0 (name 0) fold.Sum iterator.Empty (name 7)

abbrev pub sum_named : List Tok
sum_named = sum_text (k m.OpenParen ∷ x ∷ k m.CloseParen ∷ with_body)

abbrev pub sum_named_tree : ExprTree
sum_named_tree = reduce 0 (name 0) fold.Sum (iterator.Named 4) (name 8)

-- with no body it is a path, as `d.size()` is
abbrev pub sum_alone : List Tok
sum_alone = sum_text (k m.OpenParen ∷ k m.CloseParen ∷ [])

abbrev pub sum_path : ExprTree
sum_path = path 0 scope.Plain (0 ∷ 2 ∷ []) true

-- ---- foreach (m[i, j]) x;

abbrev pub two_loops : List Tok
two_loops = text (kw w.Foreach ∷ k m.OpenParen ∷ x ∷ k m.OpenBracket ∷ x ∷ k m.Comma ∷ x ∷ k m.CloseBracket ∷ k m.CloseParen ∷ x ∷ k m.Semicolon ∷ [])

abbrev pub loops_of : List ℕ → ItemTree
loops_of vars = foreach 0 (name 2) vars (alone (stated 9))

-- ---- v = p.randomize(); and v = p.size();

abbrev pub answer_text : Lexeme → List Tok
answer_text method = text (x ∷ k m.Assign ∷ x ∷ k m.Dot ∷ method ∷ k m.OpenParen ∷ k m.CloseParen ∷ k m.Semicolon ∷ [])

abbrev pub randomize : Lexeme
randomize = lexeme.Name name_kind.Randomize

-- a call
abbrev pub answer_call : StmtTree
answer_call = assign 0 (name 0) (answer record { path = name 2; args = args.Empty; items = None })

-- an expression
abbrev pub answer_value : StmtTree
answer_value = assign 0 (name 0) (value (path 2 scope.Plain (2 ∷ 4 ∷ []) true))

-- ---- p.randomize(); and begin end

abbrev pub call_text : List Tok
call_text = text (x ∷ k m.Dot ∷ randomize ∷ k m.OpenParen ∷ k m.CloseParen ∷ k m.Semicolon ∷ [])

abbrev pub call_tree : StmtTree
call_tree = call 0 form.Plain record { path = name 0; args = args.Empty; items = None }

abbrev pub empty_block : StmtTree
empty_block = block 0 no_stmts

-- ---- module m; initial begin end endmodule

abbrev pub least_text : Word → List Tok
least_text last = text (kw w.Module ∷ x ∷ k m.Semicolon ∷ kw w.Initial ∷ kw w.Begin ∷ kw w.End ∷ kw last ∷ [])

abbrev pub least_script : ScriptTree
least_script = record { types = []; classes = []; order = []; unit = record { kind = unit_kind.Module; name = 1; parens = false; outer = []; inner = []; stmts = []; label = None } }

-- ---- a == (((1)));

-- the literal 1 in this many parentheses
abbrev pub nested : ℕ → ExprTree
nested zero = literal 0 1
nested (suc n) = paren 0 (nested n)

abbrev pub nested_item : ℕ → ItemTree
nested_item n = plain 0 false (binary 0 b.Equal (name 0) (nested n)) None

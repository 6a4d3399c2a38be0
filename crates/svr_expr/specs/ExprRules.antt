-- The productions of expressions, as programs (IEEE 1800-2017, A.8 and table 11-2). Each answer has its height beside it.
use Rattle.std.specs.Prelude.{ℕ, zero, suc, ◌+◌, max, Bool, true, false, List, [], ◌∷◌, ◌++◌, Option, Some, None, Err}
use Rattle.svr_token.specs.declared.Lexeme.{Lexeme}
use Rattle.svr_token.specs.declared.Lexeme.TheVariants as lexeme
use Rattle.svr_token.specs.declared.Word.TheVariants as w
use Rattle.svr_token.specs.declared.Mark.TheVariants as m
use Rattle.svr_token.specs.declared.NameKind.{NameKind}
use Rattle.svr_token.specs.declared.NameKind.TheVariants as name_kind
use Rattle.svr_token.specs.declared.SystemName.{SystemName}
use Rattle.svr_token.specs.declared.SystemName.TheVariants as system
use Rattle.svr_operator.specs.declared.UnOp.{UnOp}
use Rattle.svr_operator.specs.declared.BinOp.{BinOp}
use Rattle.svr_operator.specs.declared.Fold.{Fold}
use Rattle.svr_operator.specs.declared.Fold.TheVariants as fold
use Rattle.svr_tree.specs.declared.expr.Scope.{Scope}
use Rattle.svr_tree.specs.declared.expr.Scope.TheVariants as scope
use Rattle.svr_tree.specs.declared.expr.IteratorArgument.{IteratorArgument}
use Rattle.svr_tree.specs.declared.expr.IteratorArgument.TheVariants as iterator
use Rattle.svr_tree.specs.ExprTree.{ExprTree, number, path, bit_select, part_select, unary, binary, choice, inside, join, copies, sign, paren, reduce, RangeTree, one, span, BoundTree, value, dollar, exprs_of, ranges_of}
use Rattle.svr_tree.specs.Operators.{implication_level, conditional_level, unary_level, selection_level, precedence, least_right}
use Rattle.svr_reader.specs.declared.fixed.Fixed.TheVariants as f
use Rattle.svr_reader.specs.Outcomes.{Stuck, Parser, Turn, go, done}
use Rattle.svr_reader.specs.Program.{Program, pure, refuse, peek, here, take, expect, known_name, enter, call, loop, run}
use Rattle.svr_reader.specs.Steps.{is_fixed}
use Rattle.svr_reader.specs.Lists.{◌>>=◌, ◌>>◌, WithHeight, no_room, choose, led, listing_on, listing}
use Rattle.svr_expr.specs.declared.connective.Connective.{Connective}
use Rattle.svr_expr.specs.declared.connective.Connective.TheVariants as connective
use Rattle.svr_expr.specs.Connectives.{unary_of, connective_of, connective_level, goes_on}

-- a production: a program that calls for expressions one level below, of at least some level of table 11-2
abbrev pub Rule : Type 0 → Type 1
Rule A = Program ℕ (λ _. WithHeight ExprTree) A

-- ---- names and paths

unfoldable pub name_step : {K : Type 0} {Ans : K → Type 0} → List ℕ × NameKind → Program K Ans (Turn (List ℕ × NameKind) (List ℕ × NameKind))
name_step s = led (f.Mark m.Dot) (do
  n ← known_name
  pure (go (s.0 ++ n.0 ∷ [], n.1))) (pure (done s))

-- { "." NAME }, behind a first name: all names, and the kind of the last one
unfoldable pub names_on : {K : Type 0} {Ans : K → Type 0} → ℕ × NameKind → Program K Ans (List ℕ × NameKind)
names_on first = loop name_step (first.0 ∷ [], first.1)

-- NAME { "." NAME }, of a path that begins at this token
unfoldable pub path_from : {K : Type 0} {Ans : K → Type 0} → ℕ → Scope → Program K Ans (ExprTree × NameKind)
path_from at s = do
  first ← known_name
  ns ← names_on first
  pure (path at s ns.0 false, ns.1)

unfoldable pub plain_path : {K : Type 0} {Ans : K → Type 0} → Program K Ans (ExprTree × NameKind)
plain_path = do
  at ← here
  path_from at scope.Plain

unfoldable pub local_path : {K : Type 0} {Ans : K → Type 0} → Program K Ans (ExprTree × NameKind)
local_path = do
  at ← take
  expect (f.Mark m.DoubleColon)
  path_from at scope.Local

unfoldable pub this_path : {K : Type 0} {Ans : K → Type 0} → Program K Ans (ExprTree × NameKind)
this_path = do
  at ← take
  expect (f.Mark m.Dot)
  path_from at scope.This

abbrev pub known_path_by : {K : Type 0} {Ans : K → Type 0} → Option Lexeme → Program K Ans (ExprTree × NameKind)
known_path_by (Some (lexeme.Word w.Local)) = local_path
known_path_by (Some (lexeme.Word w.This)) = this_path
known_path_by _ = plain_path

-- { "." NAME } behind the first name of a plain path: the path, and the kind of its last name
unfoldable pub path_on : {K : Type 0} {Ans : K → Type 0} → ℕ × NameKind → Program K Ans (ExprTree × NameKind)
path_on first = do
  ns ← names_on first
  pure (path first.0 scope.Plain ns.0 false, ns.1)

-- a path, and the kind of its last name
unfoldable pub known_path : {K : Type 0} {Ans : K → Type 0} → Program K Ans (ExprTree × NameKind)
known_path = peek >>= known_path_by

unfoldable pub path_in : {K : Type 0} {Ans : K → Type 0} → Program K Ans (WithHeight ExprTree)
path_in = do
  p ← known_path
  pure (p.0, 1)

-- path { "[" expr "]" }
unfoldable pub index_on : ℕ → WithHeight ExprTree → Rule (WithHeight ExprTree)
index_on at base = do
  enter base.1
  index ← call implication_level
  expect (f.Mark m.CloseBracket)
  pure (bit_select at base.0 index.0 false, max base.1 index.1 + 1)

unfoldable pub member_step : ℕ → WithHeight ExprTree → Rule (Turn (WithHeight ExprTree) (WithHeight ExprTree))
member_step at base = do
  l ← peek
  choose (is_fixed (f.Mark m.OpenBracket) l) (do
    longer ← index_on at base
    pure (go longer)) (pure (done base))

unfoldable pub member_in : Rule (WithHeight ExprTree)
member_in = do
  at ← here
  base ← path_in
  loop (member_step at) base

-- what may stand behind a path: selects, and then `()`

abbrev pub with_parens : ExprTree → ExprTree
with_parens (path at s ns c) = path at s ns true
with_parens (bit_select at base index c) = bit_select at base index true
with_parens (part_select at base first last c) = part_select at base first last true
with_parens e = e

unfoldable pub parens_on : WithHeight ExprTree → Rule (WithHeight ExprTree)
parens_on base = do
  take
  expect (f.Mark m.CloseParen)
  pure (with_parens base.0, base.1)

unfoldable pub select_on : ℕ → WithHeight ExprTree → Rule (WithHeight ExprTree)
select_on at base = do
  enter base.1
  first ← call implication_level
  led (f.Mark m.Colon) (do
    last ← call implication_level
    expect (f.Mark m.CloseBracket)
    pure (part_select at base.0 first.0 last.0 false, max (max base.1 first.1) last.1 + 1)) (do
      expect (f.Mark m.CloseBracket)
      pure (bit_select at base.0 first.0 false, max base.1 first.1 + 1))

abbrev pub suffix_by : ℕ → WithHeight ExprTree → Option Lexeme → Rule (Turn (WithHeight ExprTree) (WithHeight ExprTree))
suffix_by at base (Some (lexeme.Mark m.OpenBracket)) = do
  longer ← select_on at base
  pure (go longer)
suffix_by at base (Some (lexeme.Mark m.OpenParen)) = do
  longer ← parens_on base
  pure (done longer)
suffix_by at base _ = pure (done base)

unfoldable pub suffix_step : ℕ → WithHeight ExprTree → Rule (Turn (WithHeight ExprTree) (WithHeight ExprTree))
suffix_step at base = peek >>= suffix_by at base

-- the selects behind a path, and `()`
unfoldable pub with_suffixes : ℕ → WithHeight ExprTree → Rule (WithHeight ExprTree)
with_suffixes at base = loop (suffix_step at) base

-- ---- array reductions

-- the reduction that a name means
abbrev pub fold_of : NameKind → Option Fold
fold_of name_kind.Sum = Some fold.Sum
fold_of name_kind.Product = Some fold.Product
fold_of name_kind.And = Some fold.And
fold_of name_kind.Or = Some fold.Or
fold_of name_kind.Xor = Some fold.Xor
fold_of name_kind.Plain = None
fold_of name_kind.Randomize = None
fold_of name_kind.RandMode = None
fold_of name_kind.ConstraintMode = None

abbrev pub all_but_last : List ℕ → List ℕ
all_but_last [] = []
all_but_last (n ∷ []) = []
all_but_last (n ∷ (o ∷ ns)) = n ∷ all_but_last (o ∷ ns)

-- the path without its last name
abbrev pub owner : ExprTree → ExprTree
owner (path at s ns c) = path at s (all_but_last ns) c
owner e = e

-- the reduction that a path of two names or more ends with
abbrev pub path_fold : ExprTree × NameKind → Option Fold
path_fold (path at s (n ∷ (o ∷ ns)) c, k) = fold_of k
path_fold _ = None

-- "(" expr ")", behind `with`
abbrev pub body_in_parens : ℕ → ExprTree → Fold → IteratorArgument → Rule (WithHeight ExprTree)
body_in_parens at array op item = do
  expect (f.Mark m.OpenParen)
  body ← call implication_level
  expect (f.Mark m.CloseParen)
  pure (reduce at array op item body.0, max 1 body.1 + 1)

-- "with" "(" expr ")", where `with` comes next
unfoldable pub body_on : ℕ → ExprTree → Fold → IteratorArgument → Rule (WithHeight ExprTree)
body_on at array op item = do
  enter 1
  body_in_parens at array op item

-- behind `()`: a body, or none
abbrev pub called_by : ℕ → ExprTree → Fold → Option Lexeme → Rule (WithHeight ExprTree)
called_by at p op (Some (lexeme.Word w.With)) = body_on at (owner p) op iterator.Empty
called_by at p op _ = pure (with_parens p, 1)

-- NAME ")" "with" "(" expr ")"
unfoldable pub argument_on : ℕ → ExprTree → Fold → Rule (WithHeight ExprTree)
argument_on at p op = do
  n ← enter 1
  expect (f.Mark m.CloseParen)
  expect (f.Word w.With)
  body_in_parens at (owner p) op (iterator.Named n)

-- behind `(`: the name of an element, or none
abbrev pub argument_by : ℕ → ExprTree → Fold → Option Lexeme → Rule (WithHeight ExprTree)
argument_by at p op (Some (lexeme.Name k)) = argument_on at p op
argument_by at p op _ = do
  expect (f.Mark m.CloseParen)
  peek >>= called_by at p op

-- behind a path that ends with the name of a reduction
abbrev pub fold_by : ℕ → ExprTree → Fold → Option Lexeme → Rule (WithHeight ExprTree)
fold_by at p op (Some (lexeme.Word w.With)) = body_on at (owner p) op iterator.Absent
fold_by at p op (Some (lexeme.Mark m.OpenParen)) = do
  take
  peek >>= argument_by at p op
fold_by at p op _ = with_suffixes at (p, 1)

abbrev pub path_on_by : ℕ → ExprTree → Option Fold → Rule (WithHeight ExprTree)
path_on_by at p (Some op) = peek >>= fold_by at p op
path_on_by at p None = with_suffixes at (p, 1)

-- what stands behind a path, whose last name is of this kind
unfoldable pub path_rest : ℕ → ExprTree × NameKind → Rule (WithHeight ExprTree)
path_rest at p = path_on_by at p.0 (path_fold p)

-- A.8.4: a path and what stands behind it
unfoldable pub path_expr : Rule (WithHeight ExprTree)
path_expr = do
  at ← here
  p ← known_path
  path_rest at p

-- ---- lists and ranges

-- expr { "," expr }
unfoldable pub exprs : Rule (WithHeight (List ExprTree))
exprs = listing (call implication_level)

abbrev pub bound_by : Option Lexeme → Rule (WithHeight BoundTree)
bound_by (Some (lexeme.Mark m.Dollar)) = do
  take
  pure (dollar, 0)
bound_by _ = do
  x ← call implication_level
  pure (value x.0, x.1)

unfoldable pub bound : Rule (WithHeight BoundTree)
bound = peek >>= bound_by

unfoldable pub span_on : Rule (WithHeight RangeTree)
span_on = do
  low ← bound
  expect (f.Mark m.Colon)
  high ← bound
  expect (f.Mark m.CloseBracket)
  pure (span low.0 high.0, max low.1 high.1)

abbrev pub range_by : Option Lexeme → Rule (WithHeight RangeTree)
range_by (Some (lexeme.Mark m.OpenBracket)) = do
  take
  span_on
range_by _ = do
  x ← call implication_level
  pure (one x.0, x.1)

-- A.8.3: value_range
unfoldable pub range : Rule (WithHeight RangeTree)
range = peek >>= range_by

unfoldable pub ranges : Rule (WithHeight (List RangeTree))
ranges = listing range

-- ---- primaries and unary operators

unfoldable pub literal : ℕ → ℕ → Bool → Rule (WithHeight ExprTree)
literal v width signed = do
  at ← take
  pure (number at v width signed, 1)

unfoldable pub paren_expr : Rule (WithHeight ExprTree)
paren_expr = do
  at ← enter 1
  x ← call implication_level
  expect (f.Mark m.CloseParen)
  pure (paren at x.0, x.1 + 1)

abbrev pub is_signed : SystemName → Bool
is_signed system.Signed = true
is_signed system.Unsigned = false

unfoldable pub sign_expr : SystemName → Rule (WithHeight ExprTree)
sign_expr s = do
  at ← enter 1
  expect (f.Mark m.OpenParen)
  x ← call implication_level
  expect (f.Mark m.CloseParen)
  pure (sign at (is_signed s) x.0, x.1 + 1)

-- what stands behind `{` and an expression: the parts that are copied
unfoldable pub copies_on : ℕ → WithHeight ExprTree → Rule (WithHeight ExprTree)
copies_on at count = do
  parts ← exprs
  expect (f.Mark m.CloseBrace)
  expect (f.Mark m.CloseBrace)
  pure (copies at count.0 (exprs_of parts.0), max count.1 parts.1 + 1)

-- or the other parts of a concatenation
unfoldable pub join_on : ℕ → WithHeight (List ExprTree) → Rule (WithHeight ExprTree)
join_on at parts = do
  expect (f.Mark m.CloseBrace)
  pure (join at (exprs_of parts.0), parts.1 + 1)

unfoldable pub brace_expr : Rule (WithHeight ExprTree)
brace_expr = do
  at ← enter 1
  first ← call implication_level
  led (f.Mark m.OpenBrace) (copies_on at first) (led (f.Mark m.Comma) (do
    parts ← listing_on (call implication_level) (first.0 ∷ [], first.1)
    join_on at parts) (join_on at (first.0 ∷ [], first.1)))

unfoldable pub unary_expr : UnOp → Rule (WithHeight ExprTree)
unary_expr op = do
  at ← enter 1
  x ← call unary_level
  pure (unary at op x.0, x.1 + 1)

abbrev pub unary_by : Option UnOp → Rule (WithHeight ExprTree)
unary_by (Some op) = unary_expr op
unary_by None = refuse

abbrev pub prefix_by : Option Lexeme → Rule (WithHeight ExprTree)
prefix_by (Some (lexeme.Literal v width signed)) = literal v width signed
prefix_by (Some (lexeme.Name k)) = path_expr
prefix_by (Some (lexeme.Word w.Local)) = path_expr
prefix_by (Some (lexeme.Word w.This)) = path_expr
prefix_by (Some (lexeme.System s)) = sign_expr s
prefix_by (Some (lexeme.Mark m.OpenParen)) = paren_expr
prefix_by (Some (lexeme.Mark m.OpenBrace)) = brace_expr
prefix_by (Some (lexeme.Mark k)) = unary_by (unary_of k)
prefix_by _ = refuse

unfoldable pub prefix : Rule (WithHeight ExprTree)
prefix = peek >>= prefix_by

-- ---- operators; `at` is where the left operand begins

unfoldable pub binary_on : ℕ → WithHeight ExprTree → BinOp → Rule (WithHeight ExprTree)
binary_on at left op = do
  right ← call (least_right (precedence op))
  pure (binary at op left.0 right.0, max left.1 right.1 + 1)

unfoldable pub choice_on : ℕ → WithHeight ExprTree → Rule (WithHeight ExprTree)
choice_on at test = do
  met ← call implication_level
  expect (f.Mark m.Colon)
  unmet ← call conditional_level
  pure (choice at test.0 met.0 unmet.0, max (max test.1 met.1) unmet.1 + 1)

unfoldable pub inside_on : ℕ → WithHeight ExprTree → Rule (WithHeight ExprTree)
inside_on at left = do
  expect (f.Mark m.OpenBrace)
  members ← ranges
  expect (f.Mark m.CloseBrace)
  pure (inside at left.0 (ranges_of members.0), max left.1 members.1 + 1)

abbrev pub extend_by : ℕ → WithHeight ExprTree → Connective → Rule (WithHeight ExprTree)
extend_by at left (connective.Binary op) = binary_on at left op
extend_by at left connective.Choice = choice_on at left
extend_by at left connective.Inside = inside_on at left

-- with the token of the connective
unfoldable pub extend : ℕ → WithHeight ExprTree → Connective → Rule (WithHeight ExprTree)
extend at left k = do
  enter left.1
  extend_by at left k

-- `s.0` goes on with connectives of at least the level `least` and of less than `s.1`
abbrev pub climb_by : ℕ → ℕ → WithHeight ExprTree × ℕ → Option Connective → Rule (Turn (WithHeight ExprTree × ℕ) (WithHeight ExprTree))
climb_by at least s None = pure (done s.0)
climb_by at least s (Some k) = choose (goes_on least s.1 (connective_level k)) (do
  longer ← extend at s.0 k
  pure (go (longer, least_right (connective_level k)))) (pure (done s.0))

unfoldable pub climb_step : ℕ → ℕ → WithHeight ExprTree × ℕ → Rule (Turn (WithHeight ExprTree × ℕ) (WithHeight ExprTree))
climb_step at least s = do
  l ← peek
  climb_by at least s (connective_of l)

unfoldable pub climb : ℕ → ℕ → WithHeight ExprTree → Rule (WithHeight ExprTree)
climb at least first = loop (climb_step at least) (first, selection_level)

-- A.8.3: expression
unfoldable pub expr_in : ℕ → Rule (WithHeight ExprTree)
expr_in least = do
  at ← here
  first ← prefix
  climb at least first

-- ---- what other productions call for

-- what is read as a node of its own
pub data Node : Type 0 where
  -- an expression of at least this level
  an_expr : ℕ → Node
  -- path
  a_path : Node
  -- path { "[" expr "]" }
  a_member : Node
  -- an expression whose first path, which begins at this token and whose last name is of this kind, was read already
  rest_of_path : ℕ → ExprTree × NameKind → Node
  -- an expression whose first operand, which begins at this token, was read already
  rest_of_operand : ℕ → WithHeight ExprTree → Node

abbrev pub node_in : Node → Rule (WithHeight ExprTree)
node_in (an_expr least) = expr_in least
node_in a_path = path_in
node_in a_member = member_in
node_in (rest_of_path at first) = do
  whole ← path_rest at first
  climb at implication_level whole
node_in (rest_of_operand at first) = climb at implication_level first

-- what an expression begins with
abbrev pub is_operator : Option UnOp → Bool
is_operator (Some op) = true
is_operator None = false

abbrev pub path_starts : Option Lexeme → Bool
path_starts (Some (lexeme.Name k)) = true
path_starts (Some (lexeme.Word w.Local)) = true
path_starts (Some (lexeme.Word w.This)) = true
path_starts _ = false

abbrev pub expr_starts : Option Lexeme → Bool
expr_starts (Some (lexeme.Literal v width signed)) = true
expr_starts (Some (lexeme.System s)) = true
expr_starts (Some (lexeme.Mark m.OpenParen)) = true
expr_starts (Some (lexeme.Mark m.OpenBrace)) = true
expr_starts (Some (lexeme.Mark k)) = is_operator (unary_of k)
expr_starts l = path_starts l

-- where there is no room for any expression. Nothing is said of one whose first operand was read already
abbrev pub no_node : Node → Parser (WithHeight ExprTree)
no_node (an_expr least) i = no_room expr_starts i
no_node a_path i = no_room path_starts i
no_node a_member i = no_room path_starts i
no_node (rest_of_path at first) i = Err Stuck
no_node (rest_of_operand at first) i = Err Stuck

-- a node of a height up to the second number. No list is longer than the first number
unfoldable pub node : ℕ → ℕ → Node → Parser (WithHeight ExprTree)
node most zero k i = no_node k i
node most (suc r) k i = run most r (λ least. node most r (an_expr least)) (node_in k) i

abbrev pub expr : ℕ → ℕ → ℕ → Parser (WithHeight ExprTree)
expr most r least = node most r (an_expr least)

-- what a production reads where its parts may be as high as the second number
abbrev pub within : {A : Type 0} → ℕ → ℕ → Rule A → Parser A
within most r p = run most r (expr most r) p

-- a path, and the kind of its last name, where a node may be as high as the second number
unfoldable pub a_known_path : ℕ → ℕ → Parser (ExprTree × NameKind)
a_known_path most zero i = no_room path_starts i
a_known_path most (suc r) i = within most r known_path i

-- { "[" expr "]" } behind a path that begins at this token, where a node may be as high as the second number. Nothing is said where there is no room for the path
unfoldable pub a_member_on : ℕ → ℕ → ℕ → WithHeight ExprTree → Parser (WithHeight ExprTree)
a_member_on most zero at base i = Err Stuck
a_member_on most (suc r) at base i = within most r (loop (member_step at) base) i

-- lists and ranges of expressions of a height up to the second number
unfoldable pub some_exprs : ℕ → ℕ → Parser (WithHeight (List ExprTree))
some_exprs most r = within most r exprs

unfoldable pub a_range : ℕ → ℕ → Parser (WithHeight RangeTree)
a_range most r = within most r range

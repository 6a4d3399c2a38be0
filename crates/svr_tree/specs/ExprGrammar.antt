-- Expressions: what they spell, which may stand under which, how high they are (IEEE 1800-2017, A.8 and table 11-2).
use Rattle.std.specs.Prelude.{◌≡◌, ℕ, ◌+◌, ◌≤◌, max, Bool, true, false, List, [], ◌∷◌, ◌++◌}
use Rattle.svr_token.specs.declared.Lexeme.TheVariants as lexeme
use Rattle.svr_token.specs.declared.Word.TheVariants as w
use Rattle.svr_token.specs.declared.Mark.TheVariants as m
use Rattle.svr_token.specs.declared.SystemName.{SystemName}
use Rattle.svr_token.specs.declared.SystemName.TheVariants as system
use Rattle.svr_tree.specs.declared.expr.Scope.{Scope}
use Rattle.svr_tree.specs.declared.expr.Scope.TheVariants as scope
use Rattle.svr_tree.specs.declared.expr.IteratorArgument.{IteratorArgument}
use Rattle.svr_tree.specs.declared.expr.IteratorArgument.TheVariants as iterator
use Rattle.svr_tree.specs.ExprTree.{ExprTree, number, path, bit_select, part_select, unary, binary, choice, inside, join, copies, sign, paren, reduce, ExprTrees, no_exprs, more_exprs, RangeTree, one, span, RangeTrees, no_ranges, more_ranges, BoundTree, value, dollar}
use Rattle.svr_tree.specs.Tokens.{Entry, On, Any, Name, word, word_on, mark, mark_on}
use Rattle.svr_tree.specs.Operators.{unary_mark, binary_mark, fold_name, conditional_level, relational_level, unary_level, precedence, least_left, least_right}

-- ---- what a tree spells

-- { "." NAME }
abbrev pub dotted : List ℕ → List Entry
dotted [] = []
dotted (n ∷ ns) = mark m.Dot ∷ (Name n ∷ dotted ns)

-- NAME { "." NAME }
abbrev pub names_spelling : List ℕ → List Entry
names_spelling [] = []
names_spelling (n ∷ ns) = Name n ∷ dotted ns

-- [ "local" "::" | "this" "." ]
abbrev pub scope_spelling : ℕ → Scope → List Entry
scope_spelling at scope.Plain = []
scope_spelling at scope.Local = word_on at w.Local ∷ (mark m.DoubleColon ∷ [])
scope_spelling at scope.This = word_on at w.This ∷ (mark m.Dot ∷ [])

-- [ "(" ")" ]
abbrev pub parens_spelling : Bool → List Entry
parens_spelling true = mark m.OpenParen ∷ (mark m.CloseParen ∷ [])
parens_spelling false = []

-- [ "(" [ NAME ] ")" ]
abbrev pub argument_spelling : IteratorArgument → List Entry
argument_spelling iterator.Absent = []
argument_spelling iterator.Empty = mark m.OpenParen ∷ (mark m.CloseParen ∷ [])
argument_spelling (iterator.Named n) = mark m.OpenParen ∷ (Name n ∷ (mark m.CloseParen ∷ []))

abbrev pub system_name : Bool → SystemName
system_name true = system.Signed
system_name false = system.Unsigned

abbrev mutual
  -- A.8.3: expression
  pub expr_spelling : ExprTree → List Entry
  -- A.8.4: primary
  expr_spelling (number at v width signed) = On at (lexeme.Literal v width signed) ∷ []
  expr_spelling (path at s names call) = scope_spelling at s ++ (names_spelling names ++ parens_spelling call)
  expr_spelling (bit_select at base index call) = expr_spelling base ++ mark m.OpenBracket ∷ (expr_spelling index ++ mark m.CloseBracket ∷ parens_spelling call)
  expr_spelling (part_select at base first last call) = expr_spelling base ++ mark m.OpenBracket ∷ (expr_spelling first ++ mark m.Colon ∷ (expr_spelling last ++ mark m.CloseBracket ∷ parens_spelling call))
  expr_spelling (paren at e) = mark_on at m.OpenParen ∷ (expr_spelling e ++ mark m.CloseParen ∷ [])
  -- A.8.2: array_method_call, of an array reduction with a body. The path ends before the name of the reduction.
  expr_spelling (reduce at array op item body) = expr_spelling array ++ mark m.Dot ∷ (Any (lexeme.Name (fold_name op)) ∷ (argument_spelling item ++ word w.With ∷ (mark m.OpenParen ∷ (expr_spelling body ++ mark m.CloseParen ∷ []))))
  -- A.8.1: concatenation, multiple_concatenation
  expr_spelling (join at parts) = mark_on at m.OpenBrace ∷ (exprs_spelling parts ++ mark m.CloseBrace ∷ [])
  expr_spelling (copies at n parts) = mark_on at m.OpenBrace ∷ (expr_spelling n ++ mark m.OpenBrace ∷ (exprs_spelling parts ++ mark m.CloseBrace ∷ (mark m.CloseBrace ∷ [])))
  -- A.8.2: system_tf_call
  expr_spelling (sign at s e) = On at (lexeme.System (system_name s)) ∷ (mark m.OpenParen ∷ (expr_spelling e ++ mark m.CloseParen ∷ []))
  expr_spelling (unary at op e) = mark_on at (unary_mark op) ∷ expr_spelling e
  expr_spelling (binary at op l r) = expr_spelling l ++ mark (binary_mark op) ∷ expr_spelling r
  -- A.8.3: conditional_expression
  expr_spelling (choice at t met unmet) = expr_spelling t ++ mark m.Question ∷ (expr_spelling met ++ mark m.Colon ∷ expr_spelling unmet)
  -- A.8.3: inside_expression
  expr_spelling (inside at l set) = expr_spelling l ++ word w.Inside ∷ (mark m.OpenBrace ∷ (ranges_spelling set ++ mark m.CloseBrace ∷ []))

  -- expr { "," expr }
  pub exprs_spelling : ExprTrees → List Entry
  exprs_spelling no_exprs = []
  exprs_spelling (more_exprs e es) = expr_spelling e ++ exprs_followed es

  -- { "," expr }
  pub exprs_followed : ExprTrees → List Entry
  exprs_followed no_exprs = []
  exprs_followed (more_exprs e es) = mark m.Comma ∷ (expr_spelling e ++ exprs_followed es)

  -- A.8.3: value_range
  pub range_spelling : RangeTree → List Entry
  range_spelling (one e) = expr_spelling e
  range_spelling (span low high) = mark m.OpenBracket ∷ (bound_spelling low ++ mark m.Colon ∷ (bound_spelling high ++ mark m.CloseBracket ∷ []))

  -- range { "," range }
  pub ranges_spelling : RangeTrees → List Entry
  ranges_spelling no_ranges = []
  ranges_spelling (more_ranges r rs) = range_spelling r ++ ranges_followed rs

  -- { "," range }
  pub ranges_followed : RangeTrees → List Entry
  ranges_followed no_ranges = []
  ranges_followed (more_ranges r rs) = mark m.Comma ∷ (range_spelling r ++ ranges_followed rs)

  pub bound_spelling : BoundTree → List Entry
  bound_spelling (value e) = expr_spelling e
  bound_spelling dollar = mark m.Dollar ∷ []

-- ---- which tree may stand under which

-- the level of an expression in table 11-2
abbrev pub level : ExprTree → ℕ
level (binary at op l r) = precedence op
level (choice at t met unmet) = conditional_level
level (inside at l set) = relational_level
level _ = unary_level

-- the number of the first token
abbrev pub start : ExprTree → ℕ
start (number at v width signed) = at
start (path at s names call) = at
start (bit_select at base index call) = at
start (part_select at base first last call) = at
start (unary at op e) = at
start (binary at op l r) = at
start (choice at t met unmet) = at
start (inside at l set) = at
start (join at parts) = at
start (copies at n parts) = at
start (sign at s e) = at
start (paren at e) = at
start (reduce at array op item body) = at

-- a path without a scope begins with its first name
abbrev pub IsPathAt : ℕ → Scope → List ℕ → Type 0
IsPathAt at s [] = ⊥
IsPathAt at scope.Plain (n ∷ ns) = at ≡ n
IsPathAt at scope.Local (n ∷ ns) = Unit {0}
IsPathAt at scope.This (n ∷ ns) = Unit {0}

-- what brackets may follow: a path, or brackets on one, with no `()` behind it
abbrev pub is_selectable : ExprTree → Bool
is_selectable (path at s names false) = true
is_selectable (bit_select at base index false) = true
is_selectable (part_select at base first last false) = true
is_selectable _ = false

-- path
abbrev pub is_path : ExprTree → Bool
is_path (path at s names false) = true
is_path _ = false

-- path { "[" expr "]" }
abbrev pub is_member : ExprTree → Bool
is_member (path at s names false) = true
is_member (bit_select at base index false) = is_member base
is_member _ = false

-- whether it begins with `{`
abbrev pub is_braced : ExprTree → Bool
is_braced (join at parts) = true
is_braced (copies at n parts) = true
is_braced (binary at op l r) = is_braced l
is_braced (choice at t met unmet) = is_braced t
is_braced (inside at l set) = is_braced l
is_braced _ = false

abbrev mutual
  pub IsExpr : ExprTree → Type 0
  IsExpr (number at v width signed) = Unit {0}
  IsExpr (path at s names call) = IsPathAt at s names
  IsExpr (bit_select at base index call) = (at ≡ start base) × IsExpr base × IsExpr index × (is_selectable base ≡ true)
  IsExpr (part_select at base first last call) = (at ≡ start base) × IsExpr base × IsExpr first × IsExpr last × (is_selectable base ≡ true)
  IsExpr (unary at op e) = IsExpr e × (unary_level ≤ level e)
  IsExpr (binary at op l r) = (at ≡ start l) × IsExpr l × IsExpr r × (least_left (precedence op) ≤ level l) × (least_right (precedence op) ≤ level r)
  IsExpr (choice at t met unmet) = (at ≡ start t) × IsExpr t × IsExpr met × IsExpr unmet × (least_left conditional_level ≤ level t) × (least_right conditional_level ≤ level unmet)
  IsExpr (inside at l set) = (at ≡ start l) × IsExpr l × AreRanges set × (least_left relational_level ≤ level l)
  IsExpr (join at parts) = AreExprs parts
  IsExpr (copies at n parts) = IsExpr n × AreExprs parts
  IsExpr (sign at s e) = IsExpr e
  IsExpr (paren at e) = IsExpr e
  IsExpr (reduce at array op item body) = (at ≡ start array) × IsExpr array × (is_path array ≡ true) × IsExpr body

  -- one or more
  pub AreExprs : ExprTrees → Type 0
  AreExprs no_exprs = ⊥
  AreExprs (more_exprs e es) = IsExpr e × EachIsExpr es

  pub EachIsExpr : ExprTrees → Type 0
  EachIsExpr no_exprs = Unit {0}
  EachIsExpr (more_exprs e es) = IsExpr e × EachIsExpr es

  pub IsRange : RangeTree → Type 0
  IsRange (one e) = IsExpr e
  IsRange (span low high) = IsBound low × IsBound high

  -- one or more
  pub AreRanges : RangeTrees → Type 0
  AreRanges no_ranges = ⊥
  AreRanges (more_ranges r rs) = IsRange r × EachIsRange rs

  pub EachIsRange : RangeTrees → Type 0
  EachIsRange no_ranges = Unit {0}
  EachIsRange (more_ranges r rs) = IsRange r × EachIsRange rs

  pub IsBound : BoundTree → Type 0
  IsBound (value e) = IsExpr e
  IsBound dollar = Unit {0}

-- ---- how high a tree is: a literal and a path are 1, every other expression is 1 more than the highest one directly in it

abbrev mutual
  pub expr_height : ExprTree → ℕ
  expr_height (number at v width signed) = 1
  expr_height (path at s names call) = 1
  expr_height (bit_select at base index call) = max (expr_height base) (expr_height index) + 1
  expr_height (part_select at base first last call) = max (max (expr_height base) (expr_height first)) (expr_height last) + 1
  expr_height (unary at op e) = expr_height e + 1
  expr_height (binary at op l r) = max (expr_height l) (expr_height r) + 1
  expr_height (choice at t met unmet) = max (max (expr_height t) (expr_height met)) (expr_height unmet) + 1
  expr_height (inside at l set) = max (expr_height l) (ranges_height set) + 1
  expr_height (join at parts) = exprs_height parts + 1
  expr_height (copies at n parts) = max (expr_height n) (exprs_height parts) + 1
  expr_height (sign at s e) = expr_height e + 1
  expr_height (paren at e) = expr_height e + 1
  expr_height (reduce at array op item body) = max (expr_height array) (expr_height body) + 1

  pub exprs_height : ExprTrees → ℕ
  exprs_height no_exprs = 0
  exprs_height (more_exprs e es) = max (expr_height e) (exprs_height es)

  pub range_height : RangeTree → ℕ
  range_height (one e) = expr_height e
  range_height (span low high) = max (bound_height low) (bound_height high)

  pub ranges_height : RangeTrees → ℕ
  ranges_height no_ranges = 0
  ranges_height (more_ranges r rs) = max (range_height r) (ranges_height rs)

  pub bound_height : BoundTree → ℕ
  bound_height (value e) = expr_height e
  bound_height dollar = 0

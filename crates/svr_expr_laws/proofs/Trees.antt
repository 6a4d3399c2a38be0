-- Trees of expressions: their heights, levels, lists and first tokens.
use Rattle.std.proofs.Common.{◌≡◌, ℕ, ◌≤◌, max, Bool, true, false, List, [], ◌∷◌, ◌++◌, length, Some, refl, sym, ◌∙◌, ap, arith, append_assoc, length-append}
use Rattle.std.proofs.lemmas.List.{append-nil}
use Rattle.svr_token.specs.declared.Lexeme.{Lexeme}
use Rattle.svr_token.specs.declared.Lexeme.TheVariants as lexeme
use Rattle.svr_token.specs.declared.Word.TheVariants as w
use Rattle.svr_token.specs.declared.Mark.TheVariants as m
use Rattle.svr_operator.specs.declared.Fold.{Fold}
use Rattle.svr_tree.specs.declared.expr.IteratorArgument.{IteratorArgument}
use Rattle.svr_tree.specs.declared.expr.Scope.{Scope}
use Rattle.svr_tree.specs.declared.expr.Scope.TheVariants as scope
use Rattle.svr_tree.specs.Tokens.{Tok, Entry, On, Any, Name, FitEach, mark, word, listed, followed, Each, OneOrMore}
use Rattle.svr_tree.specs.DeclGrammar.{greatest}
use Rattle.svr_tree.specs.Operators.{unary_mark, binary_mark, fold_name, unary_level}
use Rattle.svr_tree.specs.ExprTree.{ExprTree, number, path, bit_select, part_select, unary, binary, choice, inside, join, copies, sign, paren, reduce, ExprTrees, no_exprs, more_exprs, RangeTree, one, span, RangeTrees, no_ranges, more_ranges, exprs_of, ranges_of}
use Rattle.svr_tree.specs.ExprGrammar.{dotted, names_spelling, scope_spelling, parens_spelling, argument_spelling, system_name, expr_spelling, exprs_spelling, exprs_followed, range_spelling, ranges_spelling, ranges_followed, level, start, IsPathAt, is_selectable, IsExpr, AreExprs, EachIsExpr, IsRange, AreRanges, EachIsRange, expr_height, exprs_height, range_height, ranges_height}
use Rattle.svr_reader.specs.Outcomes.{lexeme_at, number_at}
use Rattle.svr_reader.proofs.Steps.{takes_parts}
use Rattle.svr_expr.specs.ExprRules.{with_parens, expr_starts}
use Rattle.svr_expr_laws.proofs.Connectives.{precedence_pos, precedence_low, operator_starts}

-- ---- heights and levels

pub height_pos : (t : ExprTree) → 1 ≤ expr_height t
height_pos (number at v width signed) = omega arith
height_pos (path at s names call) = omega arith
height_pos (bit_select at base index call) = omega arith
height_pos (part_select at base first last call) = omega arith
height_pos (unary at op e) = omega arith
height_pos (binary at op l r) = omega arith
height_pos (choice at t met unmet) = omega arith
height_pos (inside at l set) = omega arith
height_pos (join at parts) = omega arith
height_pos (copies at n parts) = omega arith
height_pos (sign at s e) = omega arith
height_pos (paren at e) = omega arith
height_pos (reduce at array op item body) = omega arith

pub level_pos : (t : ExprTree) → 1 ≤ level t
level_pos (binary at op l r) = precedence_pos op
level_pos (choice at t met unmet) = omega arith
level_pos (inside at l set) = omega arith
level_pos _ = omega arith

pub level_low : (t : ExprTree) → level t ≤ unary_level
level_low (binary at op l r) = let low = precedence_low op in omega (arith, low)
level_low (choice at t met unmet) = omega arith
level_low (inside at l set) = omega arith
level_low _ = omega arith

-- ---- lists as trees have them

pub list_of : ExprTrees → List ExprTree
list_of no_exprs = []
list_of (more_exprs x xs) = x ∷ list_of xs

pub list_is : (xs : ExprTrees) → exprs_of (list_of xs) ≡ xs
unfolding list_of
list_is no_exprs = refl
list_is (more_exprs x xs) = ap (λ v. more_exprs x v) (list_is xs)

exprs_followed_is : (xs : List ExprTree) → exprs_followed (exprs_of xs) ≡ followed expr_spelling xs
exprs_followed_is [] = refl
exprs_followed_is (x ∷ xs) = ap (λ v. mark m.Comma ∷ (expr_spelling x ++ v)) (exprs_followed_is xs)

pub exprs_spelling_is : (xs : List ExprTree) → exprs_spelling (exprs_of xs) ≡ listed expr_spelling xs
exprs_spelling_is [] = refl
exprs_spelling_is (x ∷ xs) = ap (λ v. expr_spelling x ++ v) (exprs_followed_is xs)

pub exprs_height_is : (xs : List ExprTree) → exprs_height (exprs_of xs) ≡ greatest expr_height xs
exprs_height_is [] = refl
exprs_height_is (x ∷ xs) = ap (max (expr_height x)) (exprs_height_is xs)

each_expr_is : (xs : List ExprTree) → Each IsExpr xs → EachIsExpr (exprs_of xs)
each_expr_is [] h = tt
each_expr_is (x ∷ xs) h = (h.0, each_expr_is xs h.1)

pub are_exprs : (xs : List ExprTree) → OneOrMore IsExpr xs → AreExprs (exprs_of xs)
are_exprs [] h = absurd h
are_exprs (x ∷ xs) h = (h.0, each_expr_is xs h.1)

each_expr_of : (xs : List ExprTree) → EachIsExpr (exprs_of xs) → Each IsExpr xs
each_expr_of [] h = tt
each_expr_of (x ∷ xs) h = (h.0, each_expr_of xs h.1)

pub exprs_are : (xs : List ExprTree) → AreExprs (exprs_of xs) → OneOrMore IsExpr xs
exprs_are [] h = absurd h
exprs_are (x ∷ xs) h = (h.0, each_expr_of xs h.1)

pub list_of_ranges : RangeTrees → List RangeTree
list_of_ranges no_ranges = []
list_of_ranges (more_ranges x xs) = x ∷ list_of_ranges xs

pub ranges_list_is : (xs : RangeTrees) → ranges_of (list_of_ranges xs) ≡ xs
unfolding list_of_ranges
ranges_list_is no_ranges = refl
ranges_list_is (more_ranges x xs) = ap (λ v. more_ranges x v) (ranges_list_is xs)

ranges_followed_is : (xs : List RangeTree) → ranges_followed (ranges_of xs) ≡ followed range_spelling xs
ranges_followed_is [] = refl
ranges_followed_is (x ∷ xs) = ap (λ v. mark m.Comma ∷ (range_spelling x ++ v)) (ranges_followed_is xs)

pub ranges_spelling_is : (xs : List RangeTree) → ranges_spelling (ranges_of xs) ≡ listed range_spelling xs
ranges_spelling_is [] = refl
ranges_spelling_is (x ∷ xs) = ap (λ v. range_spelling x ++ v) (ranges_followed_is xs)

pub ranges_height_is : (xs : List RangeTree) → ranges_height (ranges_of xs) ≡ greatest range_height xs
ranges_height_is [] = refl
ranges_height_is (x ∷ xs) = ap (max (range_height x)) (ranges_height_is xs)

each_range_is : (xs : List RangeTree) → Each IsRange xs → EachIsRange (ranges_of xs)
each_range_is [] h = tt
each_range_is (x ∷ xs) h = (h.0, each_range_is xs h.1)

pub are_ranges : (xs : List RangeTree) → OneOrMore IsRange xs → AreRanges (ranges_of xs)
are_ranges [] h = absurd h
are_ranges (x ∷ xs) h = (h.0, each_range_is xs h.1)

each_range_of : (xs : List RangeTree) → EachIsRange (ranges_of xs) → Each IsRange xs
each_range_of [] h = tt
each_range_of (x ∷ xs) h = (h.0, each_range_of xs h.1)

pub ranges_are : (xs : List RangeTree) → AreRanges (ranges_of xs) → OneOrMore IsRange xs
ranges_are [] h = absurd h
ranges_are (x ∷ xs) h = (h.0, each_range_of xs h.1)

-- ---- `()` behind a path and its selects

abbrev pub parens : List Entry
parens = parens_spelling true

pub with_parens_spelling : (t : ExprTree) → is_selectable t ≡ true → expr_spelling (with_parens t) ≡ expr_spelling t ++ parens
with_parens_spelling (path at s names false) h =
    ap (λ v. scope_spelling at s ++ (v ++ parens)) (sym (append-nil (names_spelling names))) ∙ sym (append_assoc (scope_spelling at s) (names_spelling names ++ []) parens)
with_parens_spelling (bit_select at base index false) h =
    ap (λ v. expr_spelling base ++ mark m.OpenBracket ∷ v) (sym (append_assoc (expr_spelling index) (mark m.CloseBracket ∷ []) parens))
    ∙ sym (append_assoc (expr_spelling base) (mark m.OpenBracket ∷ (expr_spelling index ++ mark m.CloseBracket ∷ [])) parens)
with_parens_spelling (part_select at base first last false) h =
    ap (λ v. expr_spelling base ++ mark m.OpenBracket ∷ (expr_spelling first ++ mark m.Colon ∷ v)) (sym (append_assoc (expr_spelling last) (mark m.CloseBracket ∷ []) parens))
    ∙ ap (λ v. expr_spelling base ++ mark m.OpenBracket ∷ v) (sym (append_assoc (expr_spelling first) (mark m.Colon ∷ (expr_spelling last ++ mark m.CloseBracket ∷ [])) parens))
    ∙ sym (append_assoc (expr_spelling base) (mark m.OpenBracket ∷ (expr_spelling first ++ mark m.Colon ∷ (expr_spelling last ++ mark m.CloseBracket ∷ []))) parens)
with_parens_spelling _ h = absurd (cc)

pub with_parens_is : (t : ExprTree) → IsExpr t → IsExpr (with_parens t)
with_parens_is (path at s names call) h = h
with_parens_is (bit_select at base index call) h = h
with_parens_is (part_select at base first last call) h = h
with_parens_is (number at v width signed) h = h
with_parens_is (unary at op e) h = h
with_parens_is (binary at op l r) h = h
with_parens_is (choice at t met unmet) h = h
with_parens_is (inside at l set) h = h
with_parens_is (join at parts) h = h
with_parens_is (copies at n parts) h = h
with_parens_is (sign at s e) h = h
with_parens_is (paren at e) h = h
with_parens_is (reduce at array op item body) h = h

pub with_parens_height : (t : ExprTree) → expr_height (with_parens t) ≡ expr_height t
with_parens_height (path at s names call) = refl
with_parens_height (bit_select at base index call) = refl
with_parens_height (part_select at base first last call) = refl
with_parens_height _ = refl

pub with_parens_level : (t : ExprTree) → level (with_parens t) ≡ level t
with_parens_level (path at s names call) = refl
with_parens_level (bit_select at base index call) = refl
with_parens_level (part_select at base first last call) = refl
with_parens_level _ = refl

pub with_parens_start : (t : ExprTree) → start (with_parens t) ≡ start t
with_parens_start (path at s names call) = refl
with_parens_start (bit_select at base index call) = refl
with_parens_start (part_select at base first last call) = refl
with_parens_start _ = refl

-- a path or a select binds like a primary
pub selectable_level : (t : ExprTree) → is_selectable t ≡ true → level t ≡ unary_level
selectable_level (path at s names false) h = refl
selectable_level (bit_select at base index false) h = refl
selectable_level (part_select at base first last false) h = refl
selectable_level _ h = absurd (cc)

-- ---- what stands behind the array of a reduction

-- "with" "(" expr ")"
abbrev pub with_rest : ExprTree → List Entry
with_rest body = word w.With ∷ (mark m.OpenParen ∷ (expr_spelling body ++ mark m.CloseParen ∷ []))

-- [ "(" [ NAME ] ")" ] "with" "(" expr ")"
abbrev pub body_rest : IteratorArgument → ExprTree → List Entry
body_rest item body = argument_spelling item ++ with_rest body

abbrev pub reduce_rest : Fold → IteratorArgument → ExprTree → List Entry
reduce_rest op item body = mark m.Dot ∷ (Any (lexeme.Name (fold_name op)) ∷ body_rest item body)

-- ---- what an expression begins with

pub record Begins (t : ExprTree) (i : List Tok) : Type 0 where
  pub at : number_at i ≡ start t
  pub first : expr_starts (lexeme_at i) ≡ true

began : (t : ExprTree) (i : List Tok) (k : ℕ) (q : Lexeme) (es : List Entry) (rest : List Tok) → start t ≡ k → expr_starts (Some q) ≡ true → FitEach i (On k q ∷ es) rest → Begins t i
began t [] k q es rest e s h = absurd h
began t (tok ∷ i) k q es rest e s h = record { at = h.0.0 ∙ sym e; first = ap (λ v. expr_starts (Some v)) h.0.1 ∙ s }

named : (t : ExprTree) (i : List Tok) (k : ℕ) (es : List Entry) (rest : List Tok) → start t ≡ k → FitEach i (Name k ∷ es) rest → Begins t i
named t [] k es rest e h = absurd h
named t (tok ∷ i) k es rest e h = record { at = h.0.0 ∙ sym e; first = ap (λ v. expr_starts (Some v)) h.0.1.is }

path_begins : (at : ℕ) (s : Scope) (names : List ℕ) (call : Bool) (i rest : List Tok) → IsPathAt at s names → FitEach i (expr_spelling (path at s names call)) rest → Begins (path at s names call) i
path_begins at s [] call i rest l h = absurd l
path_begins at scope.Plain (n ∷ ns) call i rest l h = named (path at scope.Plain (n ∷ ns) call) i n (dotted ns ++ parens_spelling call) rest l h
path_begins at scope.Local (n ∷ ns) call i rest l h = began (path at scope.Local (n ∷ ns) call) i at (lexeme.Word w.Local) (mark m.DoubleColon ∷ (names_spelling (n ∷ ns) ++ parens_spelling call)) rest refl refl h
path_begins at scope.This (n ∷ ns) call i rest l h = began (path at scope.This (n ∷ ns) call) i at (lexeme.Word w.This) (mark m.Dot ∷ (names_spelling (n ∷ ns) ++ parens_spelling call)) rest refl refl h

pub begins : (t : ExprTree) (i rest : List Tok) → IsExpr t → FitEach i (expr_spelling t) rest → Begins t i
begins (number at v width signed) i rest l h = began (number at v width signed) i at (lexeme.Literal v width signed) [] rest refl refl h
begins (path at s names call) i rest l h = path_begins at s names call i rest l h
begins (bit_select at base index call) i rest l h = let p = takes_parts i (expr_spelling base) (mark m.OpenBracket ∷ (expr_spelling index ++ mark m.CloseBracket ∷ parens_spelling call)) rest h in
    let s = begins base i p.0 l.1 p.1 in record { at = s.at ∙ sym l.0; first = s.first }
begins (part_select at base first last call) i rest l h = let p = takes_parts i (expr_spelling base) (mark m.OpenBracket ∷ (expr_spelling first ++ mark m.Colon ∷ (expr_spelling last ++ mark m.CloseBracket ∷ parens_spelling call))) rest h in
    let s = begins base i p.0 l.1 p.1 in record { at = s.at ∙ sym l.0; first = s.first }
begins (unary at op e) i rest l h = began (unary at op e) i at (lexeme.Mark (unary_mark op)) (expr_spelling e) rest refl (operator_starts op) h
begins (binary at op a b) i rest l h = let p = takes_parts i (expr_spelling a) (mark (binary_mark op) ∷ expr_spelling b) rest h in
    let s = begins a i p.0 l.1 p.1 in record { at = s.at ∙ sym l.0; first = s.first }
begins (choice at a b d) i rest l h = let p = takes_parts i (expr_spelling a) (mark m.Question ∷ (expr_spelling b ++ mark m.Colon ∷ expr_spelling d)) rest h in
    let s = begins a i p.0 l.1 p.1 in record { at = s.at ∙ sym l.0; first = s.first }
begins (inside at a set) i rest l h = let p = takes_parts i (expr_spelling a) (word w.Inside ∷ (mark m.OpenBrace ∷ (ranges_spelling set ++ mark m.CloseBrace ∷ []))) rest h in
    let s = begins a i p.0 l.1 p.1 in record { at = s.at ∙ sym l.0; first = s.first }
begins (join at parts) i rest l h = began (join at parts) i at (lexeme.Mark m.OpenBrace) (exprs_spelling parts ++ mark m.CloseBrace ∷ []) rest refl refl h
begins (copies at n parts) i rest l h = began (copies at n parts) i at (lexeme.Mark m.OpenBrace) (expr_spelling n ++ mark m.OpenBrace ∷ (exprs_spelling parts ++ mark m.CloseBrace ∷ (mark m.CloseBrace ∷ []))) rest refl refl h
begins (sign at true e) i rest l h = began (sign at true e) i at (lexeme.System (system_name true)) (mark m.OpenParen ∷ (expr_spelling e ++ mark m.CloseParen ∷ [])) rest refl refl h
begins (sign at false e) i rest l h = began (sign at false e) i at (lexeme.System (system_name false)) (mark m.OpenParen ∷ (expr_spelling e ++ mark m.CloseParen ∷ [])) rest refl refl h
begins (reduce at array op item body) i rest l h = let p = takes_parts i (expr_spelling array) (reduce_rest op item body) rest h in
    let s = begins array i p.0 l.1 p.1 in record { at = s.at ∙ sym l.0; first = s.first }
begins (paren at e) i rest l h = began (paren at e) i at (lexeme.Mark m.OpenParen) (expr_spelling e ++ mark m.CloseParen ∷ []) rest refl refl h

-- the same of a range
pub range_first : (x : RangeTree) (rest : List Tok) → IsRange x → FitEach [] (range_spelling x) rest → ⊥
range_first (one e) rest l h = let s = begins e [] rest l h in absurd (cc (s.first))
range_first (span low high) rest l h = h

-- an expression takes a token
long : (es : List Entry) (e : Entry) (fs : List Entry) → 1 ≤ length (es ++ e ∷ fs)
long es e fs = omega (arith, length-append es (e ∷ fs))

path_long : (at : ℕ) (s : Scope) (names : List ℕ) (call : Bool) → IsPathAt at s names → 1 ≤ length (expr_spelling (path at s names call))
path_long at s [] call l = absurd l
path_long at scope.Plain (n ∷ ns) call l = omega arith
path_long at scope.Local (n ∷ ns) call l = omega arith
path_long at scope.This (n ∷ ns) call l = omega arith

pub expr_long : (t : ExprTree) → IsExpr t → 1 ≤ length (expr_spelling t)
expr_long (number at v width signed) l = omega arith
expr_long (path at s names call) l = path_long at s names call l
expr_long (bit_select at base index call) l = long (expr_spelling base) (mark m.OpenBracket) (expr_spelling index ++ mark m.CloseBracket ∷ parens_spelling call)
expr_long (part_select at base first last call) l = long (expr_spelling base) (mark m.OpenBracket) (expr_spelling first ++ mark m.Colon ∷ (expr_spelling last ++ mark m.CloseBracket ∷ parens_spelling call))
expr_long (unary at op e) l = omega arith
expr_long (binary at op a b) l = long (expr_spelling a) (mark (binary_mark op)) (expr_spelling b)
expr_long (choice at a b d) l = long (expr_spelling a) (mark m.Question) (expr_spelling b ++ mark m.Colon ∷ expr_spelling d)
expr_long (inside at a set) l = long (expr_spelling a) (word w.Inside) (mark m.OpenBrace ∷ (ranges_spelling set ++ mark m.CloseBrace ∷ []))
expr_long (join at parts) l = omega arith
expr_long (copies at n parts) l = omega arith
expr_long (sign at s e) l = omega arith
expr_long (paren at e) l = omega arith
expr_long (reduce at array op item body) l = long (expr_spelling array) (mark m.Dot) (Any (lexeme.Name (fold_name op)) ∷ body_rest item body)

pub range_long : (x : RangeTree) → IsRange x → 1 ≤ length (range_spelling x)
range_long (one e) l = expr_long e l
range_long (span low high) l = omega arith

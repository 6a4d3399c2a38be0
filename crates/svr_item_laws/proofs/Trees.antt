-- Items as trees: lists of them and of what they hold, how high they are, what they begin with.
use Rattle.std.proofs.Common.{◌≡◌, ℕ, ◌≤◌, max, Bool, true, false, List, [], ◌∷◌, ◌++◌, length, Option, Some, refl, ◌∙◌, ap, arith, length-append}
use Rattle.svr_token.specs.declared.Lexeme.{Lexeme}
use Rattle.svr_token.specs.declared.Lexeme.TheVariants as lexeme
use Rattle.svr_token.specs.declared.Word.TheVariants as w
use Rattle.svr_token.specs.declared.Mark.TheVariants as m
use Rattle.svr_operator.specs.declared.UnOp.{UnOp}
use Rattle.svr_operator.specs.declared.UnOp.TheVariants as u
use Rattle.svr_tree.specs.declared.expr.Scope.{Scope}
use Rattle.svr_tree.specs.declared.expr.Scope.TheVariants as scope
use Rattle.svr_tree.specs.Tokens as tokens
use Rattle.svr_tree.specs.Tokens.{Tok, Entry, FitEach, mark, word, Each, OneOrMore}
use Rattle.svr_tree.specs.Operators.{unary_mark, binary_mark}
use Rattle.svr_tree.specs.DeclGrammar.{greatest}
use Rattle.svr_tree.specs.ExprTree.{ExprTree, number, path, bit_select, part_select, unary, binary, choice, inside, join, copies, sign, paren, reduce, exprs_of}
use Rattle.svr_tree.specs.ExprGrammar.{names_spelling, parens_spelling, expr_spelling, exprs_spelling, range_spelling, ranges_spelling, range_height, is_path, is_selectable, is_braced, IsPathAt, IsExpr}
use Rattle.svr_tree.specs.ItemTree.{DistItemTree, ItemTree, plain, unique, implies, branch, foreach, disable, solve, ItemTrees, no_items, more_items, items_of}
use Rattle.svr_tree.specs.ItemGrammar.{weight_spelling, dist_item_spelling, item_spelling, items_spelling, IsDistItem, IsPath, IsMember, EachIsPath, ArePaths, EachIsMember, AreMembers, IsItem, AreItems, IsBlockItem, AreBlockItems, weight_height, dist_items_height, item_height, items_height}
use Rattle.svr_reader.specs.Outcomes.{lexeme_at}
use Rattle.svr_reader.specs.declared.fixed.Fixed.{Fixed}
use Rattle.svr_reader.specs.declared.fixed.Fixed.TheVariants as f
use Rattle.svr_reader.specs.Steps.{same_mark, is_fixed, sees}
use Rattle.svr_reader.proofs.Steps.{takes_parts, lexeme_on, fixed_self}
use Rattle.svr_expr.specs.ExprRules.{path_starts}
use Rattle.svr_expr_laws.proofs.Trees.{reduce_rest, expr_long, range_long}

abbrev pub open_brace : Fixed
open_brace = f.Mark m.OpenBrace

abbrev pub else_word : Fixed
else_word = f.Word w.Else

-- tokens before which an `if` ends
abbrev pub NotElse : Option Lexeme → Type 0
NotElse q = is_fixed else_word q ≡ false

abbrev pub close_brace : Fixed
close_brace = f.Mark m.CloseBrace

pub either : {G : Type 0} (v : Bool) → (v ≡ true → G) → (v ≡ false → G) → G
either true f g = f refl
either false f g = g refl

-- ---- lists of items

abbrev pub list_of_items : ItemTrees → List ItemTree
list_of_items no_items = []
list_of_items (more_items x xs) = x ∷ list_of_items xs

pub items_list_is : (xs : ItemTrees) → items_of (list_of_items xs) ≡ xs
items_list_is no_items = refl
items_list_is (more_items x xs) = ap (more_items x) (items_list_is xs)

pub items_spelling_is : (xs : List ItemTree) → items_spelling (items_of xs) ≡ tokens.each_spelling item_spelling xs
items_spelling_is [] = refl
items_spelling_is (x ∷ xs) = ap (λ es. item_spelling x ++ es) (items_spelling_is xs)

pub items_height_is : (xs : List ItemTree) → items_height (items_of xs) ≡ greatest item_height xs
items_height_is [] = refl
items_height_is (x ∷ xs) = ap (max (item_height x)) (items_height_is xs)

pub are_items : (xs : List ItemTree) → Each IsItem xs → AreItems (items_of xs)
are_items [] o = tt
are_items (x ∷ xs) o = (o.0, are_items xs o.1)

pub items_are : (xs : List ItemTree) → AreItems (items_of xs) → Each IsItem xs
items_are [] o = tt
items_are (x ∷ xs) o = (o.0, items_are xs o.1)

pub are_block_items : (xs : List ItemTree) → Each IsBlockItem xs → AreBlockItems (items_of xs)
are_block_items [] o = tt
are_block_items (x ∷ xs) o = (o.0, are_block_items xs o.1)

pub block_items_are : (xs : List ItemTree) → AreBlockItems (items_of xs) → Each IsBlockItem xs
block_items_are [] o = tt
block_items_are (x ∷ xs) o = (o.0, block_items_are xs o.1)

-- ---- lists of paths and of members

each_is_path : (xs : List ExprTree) → Each IsPath xs → EachIsPath (exprs_of xs)
each_is_path [] o = tt
each_is_path (x ∷ xs) o = (o.0, each_is_path xs o.1)

pub are_paths : (xs : List ExprTree) → OneOrMore IsPath xs → ArePaths (exprs_of xs)
are_paths [] o = absurd o
are_paths (x ∷ xs) o = (o.0, each_is_path xs o.1)

each_path : (xs : List ExprTree) → EachIsPath (exprs_of xs) → Each IsPath xs
each_path [] o = tt
each_path (x ∷ xs) o = (o.0, each_path xs o.1)

pub paths_are : (xs : List ExprTree) → ArePaths (exprs_of xs) → OneOrMore IsPath xs
paths_are [] o = absurd o
paths_are (x ∷ xs) o = (o.0, each_path xs o.1)

each_is_member : (xs : List ExprTree) → Each IsMember xs → EachIsMember (exprs_of xs)
each_is_member [] o = tt
each_is_member (x ∷ xs) o = (o.0, each_is_member xs o.1)

pub are_members : (xs : List ExprTree) → OneOrMore IsMember xs → AreMembers (exprs_of xs)
are_members [] o = absurd o
are_members (x ∷ xs) o = (o.0, each_is_member xs o.1)

each_member : (xs : List ExprTree) → EachIsMember (exprs_of xs) → Each IsMember xs
each_member [] o = tt
each_member (x ∷ xs) o = (o.0, each_member xs o.1)

pub members_are : (xs : List ExprTree) → AreMembers (exprs_of xs) → OneOrMore IsMember xs
members_are [] o = absurd o
members_are (x ∷ xs) o = (o.0, each_member xs o.1)

pub path_long : (x : ExprTree) → IsPath x → 1 ≤ length (expr_spelling x)
path_long x l = expr_long x l.0

pub member_long : (x : ExprTree) → IsMember x → 1 ≤ length (expr_spelling x)
member_long x l = expr_long x l.0

-- ---- members of `dist`

abbrev pub dist_item_height : DistItemTree → ℕ
dist_item_height d = max (range_height d.range) (weight_height d.weight)

pub dist_height_is : (ds : List DistItemTree) → dist_items_height ds ≡ greatest dist_item_height ds
dist_height_is [] = refl
dist_height_is (d ∷ ds) = ap (max (dist_item_height d)) (dist_height_is ds)

pub dist_item_long : (d : DistItemTree) → IsDistItem d → 1 ≤ length (dist_item_spelling d)
dist_item_long d l = let some = range_long d.range l.0 in omega (arith, some, length-append (range_spelling d.range) (weight_spelling d.weight))

-- ---- heights

pub item_pos : (x : ItemTree) → 1 ≤ item_height x
item_pos (plain at soft e d) = omega arith
item_pos (unique at members) = omega arith
item_pos (implies at t body) = omega arith
item_pos (branch at t met unmet) = omega arith
item_pos (foreach at a vars body) = omega arith
item_pos (disable at target) = omega arith
item_pos (solve at first later) = omega arith

-- ---- what an expression begins with

path_plain : (q : Option Lexeme) → path_starts q ≡ true → is_fixed open_brace q ≡ false
path_plain (Some (lexeme.Name k)) h = refl
path_plain (Some (lexeme.Word k)) h = refl
path_plain _ h = absurd (cc)

operator_plain : (op : UnOp) → is_fixed open_brace (Some (lexeme.Mark (unary_mark op))) ≡ false
unfolding same_mark
operator_plain u.Plus = refl
operator_plain u.Minus = refl
operator_plain u.LogicalNot = refl
operator_plain u.BitwiseNot = refl
operator_plain u.ReduceAnd = refl
operator_plain u.ReduceNand = refl
operator_plain u.ReduceOr = refl
operator_plain u.ReduceNor = refl
operator_plain u.ReduceXor = refl
operator_plain u.ReduceTildeXor = refl
operator_plain u.ReduceXorTilde = refl

path_unbraced : (at : ℕ) (s : Scope) (names : List ℕ) (call : Bool) (i rest : List Tok) → IsPathAt at s names → FitEach i (expr_spelling (path at s names call)) rest → sees open_brace i ≡ false
path_unbraced at s [] call i rest l h = absurd l
path_unbraced at scope.Plain (n ∷ ns) call [] rest l h = absurd h
path_unbraced at scope.Plain (n ∷ ns) call (t ∷ i) rest l h = ap (λ v. is_fixed open_brace (Some v)) h.0.1.is
path_unbraced at scope.Local (n ∷ ns) call i rest l h = ap (is_fixed open_brace) (lexeme_on i rest at (lexeme.Word w.Local) (mark m.DoubleColon ∷ (names_spelling (n ∷ ns) ++ parens_spelling call)) h)
path_unbraced at scope.This (n ∷ ns) call i rest l h = ap (is_fixed open_brace) (lexeme_on i rest at (lexeme.Word w.This) (mark m.Dot ∷ (names_spelling (n ∷ ns) ++ parens_spelling call)) h)

plain_select : (t : ExprTree) → is_selectable t ≡ true → is_braced t ≡ false
plain_select (path at s names false) h = refl
plain_select (bit_select at base index false) h = refl
plain_select (part_select at base first last false) h = refl
plain_select _ h = absurd (cc)

plain_path : (t : ExprTree) → is_path t ≡ true → is_braced t ≡ false
plain_path (path at s names false) h = refl
plain_path _ h = absurd (cc)

-- one that does not begin with `{`
pub unbraced : (t : ExprTree) (i rest : List Tok) → IsExpr t → is_braced t ≡ false → FitEach i (expr_spelling t) rest → sees open_brace i ≡ false
unfolding same_mark
unbraced (number at v width signed) i rest l b h = ap (is_fixed open_brace) (lexeme_on i rest at (lexeme.Literal v width signed) [] h)
unbraced (path at s names call) i rest l b h = path_unbraced at s names call i rest l h
unbraced (bit_select at base index call) i rest l b h = let p = takes_parts i (expr_spelling base) (mark m.OpenBracket ∷ (expr_spelling index ++ mark m.CloseBracket ∷ parens_spelling call)) rest h in unbraced base i p.0 l.1 (plain_select base l.3) p.1
unbraced (part_select at base first last call) i rest l b h = let p = takes_parts i (expr_spelling base) (mark m.OpenBracket ∷ (expr_spelling first ++ mark m.Colon ∷ (expr_spelling last ++ mark m.CloseBracket ∷ parens_spelling call))) rest h in unbraced base i p.0 l.1 (plain_select base l.4) p.1
unbraced (reduce at array op item body) i rest l b h = let p = takes_parts i (expr_spelling array) (reduce_rest op item body) rest h in unbraced array i p.0 l.1 (plain_path array l.2) p.1
unbraced (unary at op e) i rest l b h = ap (is_fixed open_brace) (lexeme_on i rest at (lexeme.Mark (unary_mark op)) (expr_spelling e) h) ∙ operator_plain op
unbraced (binary at op a z) i rest l b h = let p = takes_parts i (expr_spelling a) (mark (binary_mark op) ∷ expr_spelling z) rest h in unbraced a i p.0 l.1 b p.1
unbraced (choice at a y z) i rest l b h = let p = takes_parts i (expr_spelling a) (mark m.Question ∷ (expr_spelling y ++ mark m.Colon ∷ expr_spelling z)) rest h in unbraced a i p.0 l.1 b p.1
unbraced (inside at a set) i rest l b h = let p = takes_parts i (expr_spelling a) (word w.Inside ∷ (mark m.OpenBrace ∷ (ranges_spelling set ++ mark m.CloseBrace ∷ []))) rest h in unbraced a i p.0 l.1 b p.1
unbraced (join at parts) i rest l b h = absurd (cc)
unbraced (copies at n parts) i rest l b h = absurd (cc)
unbraced (sign at true e) i rest l b h = ap (is_fixed open_brace) (lexeme_on i rest at _ (mark m.OpenParen ∷ (expr_spelling e ++ mark m.CloseParen ∷ [])) h)
unbraced (sign at false e) i rest l b h = ap (is_fixed open_brace) (lexeme_on i rest at _ (mark m.OpenParen ∷ (expr_spelling e ++ mark m.CloseParen ∷ [])) h)
unbraced (paren at e) i rest l b h = ap (is_fixed open_brace) (lexeme_on i rest at (lexeme.Mark m.OpenParen) (expr_spelling e ++ mark m.CloseParen ∷ []) h)

-- and one that does
pub braced : (t : ExprTree) (i rest : List Tok) → is_braced t ≡ true → FitEach i (expr_spelling t) rest → sees open_brace i ≡ true
braced (binary at op a z) i rest b h = let p = takes_parts i (expr_spelling a) (mark (binary_mark op) ∷ expr_spelling z) rest h in braced a i p.0 b p.1
braced (choice at a y z) i rest b h = let p = takes_parts i (expr_spelling a) (mark m.Question ∷ (expr_spelling y ++ mark m.Colon ∷ expr_spelling z)) rest h in braced a i p.0 b p.1
braced (inside at a set) i rest b h = let p = takes_parts i (expr_spelling a) (word w.Inside ∷ (mark m.OpenBrace ∷ (ranges_spelling set ++ mark m.CloseBrace ∷ []))) rest h in braced a i p.0 b p.1
braced (join at parts) i rest b h = fixed_self open_brace (lexeme_at i) (lexeme_on i rest at (lexeme.Mark m.OpenBrace) (exprs_spelling parts ++ mark m.CloseBrace ∷ []) h)
braced (copies at n parts) i rest b h = fixed_self open_brace (lexeme_at i) (lexeme_on i rest at (lexeme.Mark m.OpenBrace) (expr_spelling n ++ mark m.OpenBrace ∷ (exprs_spelling parts ++ mark m.CloseBrace ∷ (mark m.CloseBrace ∷ []))) h)
braced _ i rest b h = absurd (cc)

pub braced_by : (t : ExprTree) (i rest : List Tok) → FitEach i (expr_spelling t) rest → sees open_brace i ≡ false → is_braced t ≡ false
braced_by t i rest h e = either (is_braced t) (λ b. let is = braced t i rest b h in absurd (cc)) (λ b. b)

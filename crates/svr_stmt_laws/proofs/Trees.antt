-- Trees of statements: their lists, and paths.
use Rattle.std.proofs.Common.{◌≡◌, ◌≤◌, max, false, List, [], ◌∷◌, ◌++◌, length, refl, ap, subst, arith, append_assoc, length-append}
use Rattle.svr_token.specs.declared.Mark.TheVariants as m
use Rattle.svr_token.specs.declared.NameKind.{NameKind}
use Rattle.svr_tree.specs.declared.stmt.CallForm.TheVariants as form
use Rattle.svr_tree.specs.Tokens as tokens
use Rattle.svr_tree.specs.Tokens.{Tok, Entry, FitEach, mark, word, Each}
use Rattle.svr_tree.specs.DeclGrammar.{greatest}
use Rattle.svr_tree.specs.ExprTree.{ExprTree, path}
use Rattle.svr_tree.specs.ExprGrammar.{expr_spelling, expr_height}
use Rattle.svr_tree.specs.ItemGrammar.{IsPath}
use Rattle.svr_tree.specs.ItemTree.{ItemTree, ItemTrees, no_items, more_items, items_of}
use Rattle.svr_tree.specs.StmtTree.{StmtTree, empty, block, repeat, assign, call, mode, StmtTrees, no_stmts, more_stmts, stmts_of}
use Rattle.svr_tree.specs.StmtGrammar.{method, mode_spelling, randomize_spelling, right_spelling, stmt_spelling, stmts_spelling, IsStmt, AreStmts, stmt_height, stmts_height}
use Rattle.svr_reader.proofs.Steps.{takes_append}

long : (es : List Entry) (e : Entry) (fs : List Entry) → 1 ≤ length (es ++ e ∷ fs)
long es e fs = omega (arith, length-append es (e ∷ fs))

-- ---- lists of statements

pub stmts_spelling_is : (xs : List StmtTree) → stmts_spelling (stmts_of xs) ≡ tokens.each_spelling stmt_spelling xs
stmts_spelling_is [] = refl
stmts_spelling_is (x ∷ xs) = ap (λ v. stmt_spelling x ++ v) (stmts_spelling_is xs)

pub stmts_height_is : (xs : List StmtTree) → stmts_height (stmts_of xs) ≡ greatest stmt_height xs
stmts_height_is [] = refl
stmts_height_is (x ∷ xs) = ap (max (stmt_height x)) (stmts_height_is xs)

pub are_stmts : (xs : List StmtTree) → Each IsStmt xs → AreStmts (stmts_of xs)
are_stmts [] h = tt
are_stmts (x ∷ xs) h = (h.0, are_stmts xs h.1)

pub stmts_are : (xs : List StmtTree) → AreStmts (stmts_of xs) → Each IsStmt xs
stmts_are [] h = tt
stmts_are (x ∷ xs) h = (h.0, stmts_are xs h.1)

pub list_of_stmts : StmtTrees → List StmtTree
list_of_stmts no_stmts = []
list_of_stmts (more_stmts x xs) = x ∷ list_of_stmts xs

pub stmts_list_is : (xs : StmtTrees) → stmts_of (list_of_stmts xs) ≡ xs
unfolding list_of_stmts
stmts_list_is no_stmts = refl
stmts_list_is (more_stmts x xs) = ap (λ v. more_stmts x v) (stmts_list_is xs)

pub stmt_long : (t : StmtTree) → IsStmt t → 1 ≤ length (stmt_spelling t)
stmt_long (empty at) l = omega arith
stmt_long (block at ss) l = omega arith
stmt_long (repeat at n s) l = omega arith
stmt_long (assign at target right) l = long (expr_spelling target) (mark m.Assign) (right_spelling right ++ mark m.Semicolon ∷ [])
stmt_long (call at form.Plain c) l = long (randomize_spelling c) (mark m.Semicolon) []
stmt_long (call at form.Void c) l = omega arith
stmt_long (call at form.Assert c) l = omega arith
stmt_long (mode at c) l = long (mode_spelling c) (mark m.Semicolon) []

-- ---- lists of items

pub list_of_items : ItemTrees → List ItemTree
list_of_items no_items = []
list_of_items (more_items x xs) = x ∷ list_of_items xs

pub items_list_is : (xs : ItemTrees) → items_of (list_of_items xs) ≡ xs
unfolding list_of_items
items_list_is no_items = refl
items_list_is (more_items x xs) = ap (λ v. more_items x v) (items_list_is xs)

-- ---- paths

pub path_high : (e : ExprTree) → IsPath e → expr_height e ≡ 1
path_high (path at s names false) l = refl
path_high _ l = absurd (let no = l.1 in cc)

-- what a method's parentheses hold goes on
pub grow_method : (es : List Entry) (k : NameKind) (a z : List Entry) (i mid j : List Tok) → FitEach i (es ++ method k a) mid → FitEach mid z j → FitEach i (es ++ method k (a ++ z)) j
grow_method es k a z i mid j h g = subst (λ v. FitEach i v j) (append_assoc es (method k a) z) (takes_append i (es ++ method k a) z mid j h g)

-- What items begin with.
use Rattle.std.proofs.Common.{◌≡◌, ℕ, ◌≤◌, true, false, List, [], ◌∷◌, ◌++◌, length, Option, Some, refl, ◌∙◌, ap, arith, length-append}
use Rattle.svr_token.specs.declared.Lexeme.{Lexeme}
use Rattle.svr_token.specs.declared.Lexeme.TheVariants as lexeme
use Rattle.svr_token.specs.declared.Word.{Word}
use Rattle.svr_token.specs.declared.Word.TheVariants as w
use Rattle.svr_token.specs.declared.Mark.TheVariants as m
use Rattle.svr_tree.specs.Tokens.{Tok, Entry, FitEach, mark, word, word_on, names_listed, OneOrMore}
use Rattle.svr_tree.specs.DeclGrammar.{greatest}
use Rattle.svr_tree.specs.ExprTree.{ExprTree}
use Rattle.svr_tree.specs.ExprGrammar.{expr_spelling, exprs_spelling, IsExpr, expr_height}
use Rattle.svr_tree.specs.ItemTree.{ItemTree, plain, unique, implies, branch, foreach, disable, solve}
use Rattle.svr_tree.specs.ItemGrammar.{dist_spelling, item_spelling, set_spelling, else_spelling, item_is_braced, IsItem, IsBlockItem}
use Rattle.svr_reader.specs.Outcomes.{lexeme_at}
use Rattle.svr_reader.specs.Steps.{same_word, same_mark, is_fixed, sees}
use Rattle.svr_reader.proofs.Steps.{takes_parts, lexeme_on}
use Rattle.svr_expr.specs.ExprRules.{expr_starts}
use Rattle.svr_expr_laws.proofs.Trees.{height_pos, begins, expr_long}
use Rattle.svr_item_laws.proofs.Trees.{NotElse, open_brace, close_brace, else_word, unbraced}
use Rattle.svr_item_laws.proofs.Sound.{block_of}

-- ---- an item takes a token

long : (e : ExprTree) (es : List Entry) → IsExpr e → 1 ≤ length (expr_spelling e ++ es)
long e es l = let some = expr_long e l in omega (arith, some, length-append (expr_spelling e) es)

pub block_item_long : (x : ItemTree) → IsBlockItem x → 1 ≤ length (item_spelling x)
block_item_long (plain at true e d) l = omega arith
block_item_long (plain at false e d) l = long e (dist_spelling d ++ mark m.Semicolon ∷ []) l.1
block_item_long (unique at members) l = omega arith
block_item_long (implies at t body) l = long t (mark m.Arrow ∷ set_spelling body) l.1
block_item_long (branch at t met unmet) l = omega arith
block_item_long (foreach at a vars body) l = omega arith
block_item_long (disable at target) l = omega arith
block_item_long (solve at first later) l = omega arith

pub item_long : (x : ItemTree) → IsItem x → 1 ≤ length (item_spelling x)
item_long x l = block_item_long x (block_of x l)

-- ---- its first token is no `else` and no closing brace

abbrev pub IsFree : Option Lexeme → Type 0
IsFree q = NotElse q × (is_fixed close_brace q ≡ false)

starts_free : (q : Option Lexeme) → expr_starts q ≡ true → IsFree q
unfolding same_word same_mark
starts_free (Some (lexeme.Word w.Else)) h = absurd (cc)
starts_free (Some (lexeme.Mark m.CloseBrace)) h = absurd (cc)
starts_free _ h = (refl, refl)

word_free : (k : Word) (at : ℕ) (i rest : List Tok) (es : List Entry) → is_fixed else_word (Some (lexeme.Word k)) ≡ false → FitEach i (word_on at k ∷ es) rest → IsFree (lexeme_at i)
word_free k at i rest es other h = let is = lexeme_on i rest at (lexeme.Word k) es h in (ap (is_fixed else_word) is ∙ other, ap (is_fixed close_brace) is)

expr_free : (e : ExprTree) (i rest : List Tok) (es : List Entry) → IsExpr e → FitEach i (expr_spelling e ++ es) rest → IsFree (lexeme_at i)
expr_free e i rest es l h = let p = takes_parts i (expr_spelling e) es rest h in starts_free (lexeme_at i) (begins e i p.0 l p.1).first

pub block_item_free : (x : ItemTree) (i rest : List Tok) → IsBlockItem x → FitEach i (item_spelling x) rest → IsFree (lexeme_at i)
unfolding same_word
block_item_free (plain at true e d) i rest l h = word_free w.Soft at i rest (expr_spelling e ++ (dist_spelling d ++ mark m.Semicolon ∷ [])) refl h
block_item_free (plain at false e d) i rest l h = expr_free e i rest (dist_spelling d ++ mark m.Semicolon ∷ []) l.1 h
block_item_free (unique at members) i rest l h = word_free w.Unique at i rest (mark m.OpenBrace ∷ (exprs_spelling members ++ mark m.CloseBrace ∷ (mark m.Semicolon ∷ []))) refl h
block_item_free (implies at t body) i rest l h = expr_free t i rest (mark m.Arrow ∷ set_spelling body) l.1 h
block_item_free (branch at t met unmet) i rest l h = word_free w.If at i rest (mark m.OpenParen ∷ (expr_spelling t ++ mark m.CloseParen ∷ (set_spelling met ++ else_spelling unmet))) refl h
block_item_free (foreach at a vars body) i rest l h = word_free w.Foreach at i rest (mark m.OpenParen ∷ (expr_spelling a ++ mark m.OpenBracket ∷ (names_listed vars ++ mark m.CloseBracket ∷ (mark m.CloseParen ∷ set_spelling body)))) refl h
block_item_free (disable at target) i rest l h = word_free w.Disable at i rest (word w.Soft ∷ (expr_spelling target ++ mark m.Semicolon ∷ [])) refl h
block_item_free (solve at first later) i rest l h = word_free w.Solve at i rest (exprs_spelling first ++ word w.Before ∷ (exprs_spelling later ++ mark m.Semicolon ∷ [])) refl h

pub item_free : (x : ItemTree) (i rest : List Tok) → IsItem x → FitEach i (item_spelling x) rest → IsFree (lexeme_at i)
item_free x i rest l h = block_item_free x i rest (block_of x l) h

-- ---- nor an opening brace, where it does not begin with one

word_unbraced : (k : Word) (at : ℕ) (i rest : List Tok) (es : List Entry) → FitEach i (word_on at k ∷ es) rest → sees open_brace i ≡ false
word_unbraced k at i rest es h = ap (is_fixed open_brace) (lexeme_on i rest at (lexeme.Word k) es h)

pub item_unbraced : (x : ItemTree) (i rest : List Tok) → IsItem x → item_is_braced x ≡ false → FitEach i (item_spelling x) rest → sees open_brace i ≡ false
item_unbraced (plain at true e d) i rest l b h = word_unbraced w.Soft at i rest (expr_spelling e ++ (dist_spelling d ++ mark m.Semicolon ∷ [])) h
item_unbraced (plain at false e d) i rest l b h = let p = takes_parts i (expr_spelling e) (dist_spelling d ++ mark m.Semicolon ∷ []) rest h in unbraced e i p.0 l.1 b p.1
item_unbraced (unique at members) i rest l b h = word_unbraced w.Unique at i rest (mark m.OpenBrace ∷ (exprs_spelling members ++ mark m.CloseBrace ∷ (mark m.Semicolon ∷ []))) h
item_unbraced (implies at t body) i rest l b h = let p = takes_parts i (expr_spelling t) (mark m.Arrow ∷ set_spelling body) rest h in unbraced t i p.0 l.1 b p.1
item_unbraced (branch at t met unmet) i rest l b h = word_unbraced w.If at i rest (mark m.OpenParen ∷ (expr_spelling t ++ mark m.CloseParen ∷ (set_spelling met ++ else_spelling unmet))) h
item_unbraced (foreach at a vars body) i rest l b h = word_unbraced w.Foreach at i rest (mark m.OpenParen ∷ (expr_spelling a ++ mark m.OpenBracket ∷ (names_listed vars ++ mark m.CloseBracket ∷ (mark m.CloseParen ∷ set_spelling body)))) h
item_unbraced (disable at target) i rest l b h = word_unbraced w.Disable at i rest (word w.Soft ∷ (expr_spelling target ++ mark m.Semicolon ∷ [])) h
item_unbraced (solve at first later) i rest l b h = absurd l

-- ---- a list of expressions has a height

pub greatest_pos : (P : ExprTree → Type 0) (xs : List ExprTree) → OneOrMore P xs → 1 ≤ greatest expr_height xs
greatest_pos P [] o = absurd o
greatest_pos P (x ∷ xs) o = let pos = height_pos x in omega (arith, pos)

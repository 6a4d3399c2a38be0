-- The first tokens of statements.
use Rattle.std.proofs.Common.{◌≡◌, ℕ, ◌≤◌, true, false, List, [], ◌∷◌, ◌++◌, length, Option, Some, refl, sym, ◌∙◌, ap, subst, arith, append_assoc, length-append}
use Rattle.svr_token.specs.declared.Lexeme.{Lexeme}
use Rattle.svr_token.specs.declared.Lexeme.TheVariants as lexeme
use Rattle.svr_token.specs.declared.Word.TheVariants as w
use Rattle.svr_token.specs.declared.Mark.TheVariants as m
use Rattle.svr_token.specs.declared.NameKind.{NameKind}
use Rattle.svr_token.specs.declared.NameKind.TheVariants as name_kind
use Rattle.svr_tree.specs.declared.expr.Scope.TheVariants as scope
use Rattle.svr_tree.specs.declared.stmt.CallForm.TheVariants as form
use Rattle.svr_tree.specs.Tokens.{Tok, Entry, FitEach, mark}
use Rattle.svr_tree.specs.ExprTree.{ExprTree, path, bit_select}
use Rattle.svr_tree.specs.StmtTree.{StmtTree, empty, block, repeat, assign, call, mode}
use Rattle.svr_tree.specs.ExprGrammar.{expr_spelling, names_spelling, IsExpr, is_path, is_member}
use Rattle.svr_tree.specs.ItemGrammar.{IsPath}
use Rattle.svr_tree.specs.StmtGrammar.{method, args_spelling, with_spelling, mode_name, stmt_spelling, IsStmt}
use Rattle.svr_reader.specs.Outcomes.{lexeme_at}
use Rattle.svr_expr.specs.ExprRules.{path_starts}
use Rattle.svr_stmt.specs.StmtRules.{stmt_starts}
use Rattle.svr_parse.proofs.CompleteUnit.{goes_behind}

-- how a path begins, with indices or without, and the entries es behind it
pub record PathBegins (i : List Tok) (es : List Entry) (rest : List Tok) : Type 0 where
  pub first : path_starts (lexeme_at i) ≡ true
  pub second : (t : Tok) (j : List Tok) (k : NameKind) → i ≡ t ∷ j → t.lexeme ≡ lexeme.Name k → (FitEach j es rest → goes_behind (lexeme_at j) ≡ true) → goes_behind (lexeme_at j) ≡ true

word_begins : (i rest : List Tok) (es : List Entry) (l : Lexeme) → lexeme_at i ≡ Some l → path_starts (Some l) ≡ true → ((k : NameKind) → l ≡ lexeme.Name k → ⊥) → PathBegins i es rest
word_begins i rest es l h s apart = record {
  first = ap path_starts h ∙ s;
  second = λ t j k e n f. absurd (apart k (let a : Some l ≡ Some t.lexeme = sym h ∙ ap lexeme_at e in cc));
}

behind_dot : (i rest : List Tok) (es : List Entry) → FitEach i (mark m.Dot ∷ es) rest → goes_behind (lexeme_at i) ≡ true
behind_dot [] rest es h = absurd h
behind_dot (t ∷ i) rest es h = ap (λ q. goes_behind (Some q)) h.0

behind_bracket : (i rest : List Tok) (es : List Entry) → FitEach i (mark m.OpenBracket ∷ es) rest → goes_behind (lexeme_at i) ≡ true
behind_bracket [] rest es h = absurd h
behind_bracket (t ∷ i) rest es h = ap (λ q. goes_behind (Some q)) h.0

names_begin : (n : ℕ) (ns : List ℕ) (i rest : List Tok) (es : List Entry) → FitEach i ((names_spelling (n ∷ ns) ++ []) ++ es) rest → PathBegins i es rest
names_begin n ns [] rest es h = absurd h
names_begin n [] (t ∷ i) rest es h = record {
  first = ap (λ q. path_starts (Some q)) h.0.1.is;
  second = λ u j k e l f. let same : i ≡ j = cc in f (subst (λ z. FitEach z es rest) same h.1);
}
names_begin n (o ∷ ns) (t ∷ []) rest es h = absurd h.1
names_begin n (o ∷ ns) (t ∷ (v ∷ i)) rest es h = record {
  first = ap (λ q. path_starts (Some q)) h.0.1.is;
  second = λ u j k e l f. let same : v ∷ i ≡ j = cc in ap (λ z. goes_behind (lexeme_at z)) (sym same) ∙ ap (λ q. goes_behind (Some q)) h.1.0;
}

pub member_begins : (e : ExprTree) (i rest : List Tok) (es : List Entry) → IsExpr e → is_member e ≡ true → FitEach i (expr_spelling e ++ es) rest → PathBegins i es rest
member_begins (path at s [] false) i rest es l k h = absurd l
member_begins (path at scope.Plain (n ∷ ns) false) i rest es l k h = names_begin n ns i rest es h
member_begins (path at scope.Local (n ∷ ns) false) [] rest es l k h = absurd h
member_begins (path at scope.Local (n ∷ ns) false) (t ∷ i) rest es l k h = word_begins (t ∷ i) rest es (lexeme.Word w.Local) (ap Some h.0.1) refl (λ k2 e. absurd (cc))
member_begins (path at scope.This (n ∷ ns) false) [] rest es l k h = absurd h
member_begins (path at scope.This (n ∷ ns) false) (t ∷ i) rest es l k h = word_begins (t ∷ i) rest es (lexeme.Word w.This) (ap Some h.0.1) refl (λ k2 e. absurd (cc))
member_begins (bit_select at base index false) i rest es l k h =
    let fs : List Entry = mark m.OpenBracket ∷ ((expr_spelling index ++ mark m.CloseBracket ∷ []) ++ es) in
    let d = member_begins base i rest fs l.1 k (subst (λ z. FitEach i z rest) (append_assoc (expr_spelling base) (mark m.OpenBracket ∷ (expr_spelling index ++ mark m.CloseBracket ∷ [])) es) h) in
    record { first = d.first; second = λ t j k2 e n f. d.second t j k2 e n (λ h2. behind_bracket j rest _ h2) }
member_begins _ i rest es l k h = absurd (cc)

path_member : (e : ExprTree) → is_path e ≡ true → is_member e ≡ true
path_member (path at s ns false) h = refl
path_member _ h = absurd (cc)

-- a statement begins with a path, and what stands behind its first name is no name
record StmtBegins (i : List Tok) : Type 0 where
  first : stmt_starts (lexeme_at i) ≡ true
  second : (t : Tok) (j : List Tok) (k : NameKind) → i ≡ t ∷ j → t.lexeme ≡ lexeme.Name k → goes_behind (lexeme_at j) ≡ true

path_starts_stmt : (q : Option Lexeme) → path_starts q ≡ true → stmt_starts q ≡ true
path_starts_stmt (Some (lexeme.Name k)) h = refl
path_starts_stmt (Some (lexeme.Word w.Local)) h = refl
path_starts_stmt (Some (lexeme.Word w.This)) h = refl
path_starts_stmt _ h = absurd (cc)

by_path : (i rest : List Tok) (es : List Entry) → PathBegins i es rest → ((j : List Tok) → FitEach j es rest → goes_behind (lexeme_at j) ≡ true) → StmtBegins i
by_path i rest es d f = record { first = path_starts_stmt (lexeme_at i) d.first; second = λ t j k e n. d.second t j k e n (f j) }

by_token : (i : List Tok) (l : Lexeme) → lexeme_at i ≡ Some l → stmt_starts (Some l) ≡ true → ((k : NameKind) → l ≡ lexeme.Name k → ⊥) → StmtBegins i
by_token i l h s apart = record { first = ap stmt_starts h ∙ s; second = λ t j k e n. absurd (apart k (let a : Some l ≡ Some t.lexeme = sym h ∙ ap lexeme_at e in cc)) }

behind_assign : (i rest : List Tok) (es : List Entry) → FitEach i (mark m.Assign ∷ es) rest → goes_behind (lexeme_at i) ≡ true
behind_assign [] rest es h = absurd h
behind_assign (t ∷ i) rest es h = ap (λ q. goes_behind (Some q)) h.0

method_behind : (k : NameKind) (es : List Entry) (j rest : List Tok) → FitEach j (method k es ++ mark m.Semicolon ∷ []) rest → goes_behind (lexeme_at j) ≡ true
method_behind k es [] rest h = absurd h
method_behind k es (t ∷ j) rest h = ap (λ q. goes_behind (Some q)) h.0

method_begins : (e : ExprTree) (k : NameKind) (es : List Entry) (i rest : List Tok) → IsPath e → FitEach i ((expr_spelling e ++ method k es) ++ mark m.Semicolon ∷ []) rest → StmtBegins i
method_begins e k es i rest l h =
    by_path i rest (method k es ++ mark m.Semicolon ∷ [])
    (member_begins e i rest (method k es ++ mark m.Semicolon ∷ []) l.0 (path_member e l.1) (subst (λ z. FitEach i z rest) (append_assoc (expr_spelling e) (method k es) (mark m.Semicolon ∷ [])) h))
    (λ j h2. method_behind k es j rest h2)

stmt_begins : (x : StmtTree) (i rest : List Tok) → IsStmt x → FitEach i (stmt_spelling x) rest → StmtBegins i
stmt_begins (assign at target right) i rest is h = by_path i rest _ (member_begins target i rest _ is.1.0 is.1.1 h) (λ j h2. behind_assign j rest _ h2)
stmt_begins (call at form.Plain c) i rest is h = method_begins c.path name_kind.Randomize (args_spelling c.args ++ mark m.CloseParen ∷ with_spelling c.items) i rest is.1.0 h
stmt_begins (mode at c) i rest is h = method_begins c.path (mode_name c.kind) (expr_spelling c.on ++ mark m.CloseParen ∷ []) i rest is.1.0 h
stmt_begins (empty at) (t ∷ i) rest is h = by_token (t ∷ i) (lexeme.Mark m.Semicolon) (ap Some h.0.1) refl (λ k e. absurd (cc))
stmt_begins (block at ss) (t ∷ i) rest is h = by_token (t ∷ i) (lexeme.Word w.Begin) (ap Some h.0.1) refl (λ k e. absurd (cc))
stmt_begins (repeat at n s) (t ∷ i) rest is h = by_token (t ∷ i) (lexeme.Word w.Repeat) (ap Some h.0.1) refl (λ k e. absurd (cc))
stmt_begins (call at form.Void c) (t ∷ i) rest is h = by_token (t ∷ i) (lexeme.Word w.Void) (ap Some h.0.1) refl (λ k e. absurd (cc))
stmt_begins (call at form.Assert c) (t ∷ i) rest is h = by_token (t ∷ i) (lexeme.Word w.Assert) (ap Some h.0.1) refl (λ k e. absurd (cc))
stmt_begins _ [] rest is h = absurd h

pub first_stmt : (x : StmtTree) (i rest : List Tok) → IsStmt x → FitEach i (stmt_spelling x) rest → stmt_starts (lexeme_at i) ≡ true
first_stmt x i rest is h = (stmt_begins x i rest is h).first

pub second_stmt : (t : Tok) (k : NameKind) (x : StmtTree) (i rest : List Tok) → t.lexeme ≡ lexeme.Name k → IsStmt x → FitEach (t ∷ i) (stmt_spelling x) rest → goes_behind (lexeme_at i) ≡ true
second_stmt t k x i rest n is h = (stmt_begins x (t ∷ i) rest is h).second t i k refl n

some_behind : (es fs : List Entry) (e : Entry) → 1 ≤ length (es ++ e ∷ fs)
some_behind es fs e = omega (arith, length-append es (e ∷ fs))

pub stmt_fills : (x : StmtTree) → IsStmt x → 1 ≤ length (stmt_spelling x)
stmt_fills (empty at) is = omega arith
stmt_fills (block at ss) is = omega arith
stmt_fills (repeat at n s) is = omega arith
stmt_fills (assign at target right) is = some_behind (expr_spelling target) _ (mark m.Assign)
stmt_fills (call at form.Plain c) is = some_behind _ [] (mark m.Semicolon)
stmt_fills (call at form.Void c) is = omega arith
stmt_fills (call at form.Assert c) is = omega arith
stmt_fills (mode at c) is = some_behind _ [] (mark m.Semicolon)

-- What is read is a statement of the grammar that spells the tokens.
use Rattle.std.proofs.Common.{◌≡◌, ℕ, zero, suc, ◌+◌, ◌≤◌, List, [], ◌∷◌, ◌++◌, Option, Some, None, Ok, refl, sym, subst, arith, append_assoc}
use Rattle.svr_token.specs.declared.Lexeme.{Lexeme}
use Rattle.svr_token.specs.declared.Lexeme.TheVariants as lexeme
use Rattle.svr_token.specs.declared.Word.TheVariants as w
use Rattle.svr_token.specs.declared.Mark.TheVariants as m
use Rattle.svr_token.specs.declared.NameKind.{NameKind}
use Rattle.svr_tree.specs.declared.stmt.ModeKind.{ModeKind}
use Rattle.svr_tree.specs.declared.stmt.CallForm.{CallForm}
use Rattle.svr_tree.specs.declared.stmt.CallForm.TheVariants as form
use Rattle.svr_tree.specs.Tokens.{Tok, Entry, On, FitEach, mark, word}
use Rattle.svr_tree.specs.ExprTree.{ExprTree}
use Rattle.svr_tree.specs.ExprGrammar.{expr_spelling}
use Rattle.svr_tree.specs.StmtTree as tree
use Rattle.svr_tree.specs.StmtTree.{RandomizeTree, StmtTree, stmts_of}
use Rattle.svr_tree.specs.StmtGrammar.{method, mode_name, args_spelling, with_spelling, randomize_spelling, right_spelling, stmt_spelling, stmts_spelling, IsRandomize, IsStmt, randomize_height, stmt_height}
use Rattle.svr_token.specs.declared.NameKind.TheVariants as name_kind
use Rattle.svr_reader.specs.Outcomes.{Parser, lexeme_at, number_at, entered}
use Rattle.svr_reader.specs.declared.fixed.Fixed.TheVariants as f
use Rattle.svr_reader.specs.Program.{call, run, expect}
use Rattle.svr_reader.specs.Lists.{WithHeight, until}
use Rattle.svr_reader.proofs.Steps.{bind_ok, yields, takes_append, takes_parts, entered_ok, expect_ok, led_ok}
use Rattle.svr_reader.proofs.Rooms.{none_never}
use Rattle.svr_reader.proofs.Layers.{ReadAs, IsSound}
use Rattle.svr_reader.proofs.Lists.{until_sound}
use Rattle.svr_expr.specs.ExprRules.{expr, a_known_path, a_member_on, owner}
use Rattle.svr_expr_laws.proofs.Trees.{begins}
use Rattle.svr_expr_laws.proofs.SoundParts.{first_of}
use Rattle.svr_expr_laws.proofs.Sound.{expr_sound, a_known_path_sound}
use Rattle.svr_stmt.specs.declared.method.Method.{Method}
use Rattle.svr_stmt.specs.declared.method.Method.TheVariants as built
use Rattle.svr_stmt.specs.StmtRules.{a_stmt, Rule, path_method, randomize_on, whole_call, right_in, assign_on, call_on, mode_on, method_by, behind_by, behind_target, path_stmt, empty_stmt, block_stmt, repeat_stmt, enclosed_call, void_stmt, assert_stmt, stmt_by, stmt_in, stmt_starts, part, stmt}
use Rattle.svr_stmt_laws.proofs.Paths.{member_on_sound}
use Rattle.svr_stmt_laws.proofs.Sets.{SetLaws}
use Rattle.svr_stmt_laws.proofs.Trees.{stmts_spelling_is, stmts_height_is, are_stmts, path_high}
use Rattle.svr_stmt_laws.proofs.Methods.{dot_name, owner_read}
use Rattle.svr_stmt_laws.proofs.SoundCalls.{call_opens, randomize_on_sound, whole_call_sound}
use Rattle.svr_stmt_laws.proofs.SoundRights.{right_sound}

abbrev pub enclosed_spelling : RandomizeTree → List Entry
enclosed_spelling c = mark m.OpenParen ∷ (randomize_spelling c ++ mark m.CloseParen ∷ (mark m.Semicolon ∷ []))

-- the first token of a construct, and what stands behind it
pub enter_takes : (r h : ℕ) (i : List Tok) (at : ℕ) (j : List Tok) (q : Lexeme) (es : List Entry) (rest : List Tok) → entered r h i ≡ Ok (at, j) → lexeme_at i ≡ Some q → FitEach j es rest → FitEach i (On at q ∷ es) rest
enter_takes r h i at j q es rest e k g =
    let n = entered_ok r h i at j e in
    let seen : Some n.t.lexeme ≡ Some q = first_of n.t j i (Some q) n.is k in
    let is : n.t.lexeme ≡ q = cc in
    subst (λ z. FitEach z (On at q ∷ es) rest) (sym n.is) ((sym n.number, is), g)

module _ (sets : SetLaws) (most r : ℕ) (below : Parser (WithHeight StmtTree)) (ok : IsSound stmt_spelling IsStmt stmt_height r below) where
  abbrev R : {A : Type 0} → Rule A → Parser A
  R p = run most r (part most r below) p

  abbrev StmtRead : List Tok → WithHeight StmtTree → List Tok → Type 0
  StmtRead i x j = ReadAs stmt_spelling IsStmt stmt_height (suc r) i x j

  -- ---- statements that begin with a path, which was read from i0

  assign_on_sound : (i0 : List Tok) (p : ExprTree × NameKind) (mid : List Tok) (y : WithHeight StmtTree × List Tok) → a_known_path most r i0 ≡ Ok (p, mid) → R (assign_on (number_at i0) p.0) mid ≡ Ok y → StmtRead i0 y.0 y.1
  unfolding assign_on
  assign_on_sound i0 p mid y known h =
      bind_ok (a_member_on most r (number_at i0) (p.0, 1) mid) _ y h (λ target j e g. bind_ok (R (expect (f.Mark m.Assign)) j) _ y g (λ u j2 e2 g2.
      bind_ok (R right_in j2) _ y g2 (λ right j3 e3 g3. bind_ok (R (expect (f.Mark m.Semicolon)) j3) _ y g3 (λ u2 j4 e4 g4.
      let fits = (a_known_path_sound most r i0 p mid known).1 in
      let d = member_on_sound most r fits i0 p mid target j known e in
      let a = (right_sound sets most r below).at j2 right j3 e3 in
      yields (StmtRead i0) _ _ y g4 (record {
        takes = takes_append i0 (expr_spelling target.0) (mark m.Assign ∷ (right_spelling right.0 ++ mark m.Semicolon ∷ [])) j j4 d.takes
            (takes_append j (mark m.Assign ∷ []) (right_spelling right.0 ++ mark m.Semicolon ∷ []) j2 j4 (expect_ok most r (part most r below) (f.Mark m.Assign) j (u, j2) e2)
            (takes_append j2 (right_spelling right.0) (mark m.Semicolon ∷ []) j3 j4 a.takes (expect_ok most r (part most r below) (f.Mark m.Semicolon) j3 (u2, j4) e4)));
        is = ((begins target.0 i0 j d.is.0 d.takes).at, d.is, a.is);
        height = omega (arith, d.height, a.height);
        low = omega (arith, d.low, a.low);
      })))))

  call_on_sound : (i0 : List Tok) (p : ExprTree × NameKind) (mid i : List Tok) (y : WithHeight StmtTree × List Tok) → a_known_path most r i0 ≡ Ok (p, mid) → path_method p ≡ Some built.Randomize → FitEach mid (mark m.OpenParen ∷ []) i
      → R (call_on (number_at i0) p.0) i ≡ Ok y → StmtRead i0 y.0 y.1
  unfolding call_on
  call_on_sound i0 p mid i y known e t h = bind_ok (R (randomize_on p.0) i) _ y h (λ c j e2 g. bind_ok (R (expect (f.Mark m.Semicolon)) j) _ y g (λ u j2 e3 g2.
      let d = a_known_path_sound most r i0 p mid known in
      let a = randomize_on_sound sets most r below i0 p.0 i (c, j) d.1 (call_opens i0 p.0 mid i (owner_read i0 p built.Randomize mid d.0 e) t) e2 in
      let q = takes_parts i0 (expr_spelling c.0.path) (method name_kind.Randomize (args_spelling c.0.args ++ mark m.CloseParen ∷ with_spelling c.0.items)) j a.takes in
      yields (StmtRead i0) _ _ y g2 (record {
        takes = takes_append i0 (randomize_spelling c.0) (mark m.Semicolon ∷ []) j j2 a.takes (expect_ok most r (part most r below) (f.Mark m.Semicolon) j (u, j2) e3);
        is = ((begins c.0.path i0 q.0 a.is.0.0 q.1).at, a.is);
        height = omega (arith, a.height);
        low = omega (arith, a.low);
      })))

  mode_on_sound : (i0 : List Tok) (p : ExprTree × NameKind) (k : ModeKind) (mid i : List Tok) (y : WithHeight StmtTree × List Tok) → a_known_path most r i0 ≡ Ok (p, mid) → path_method p ≡ Some (built.Mode k) → FitEach mid (mark m.OpenParen ∷ []) i
      → R (mode_on (number_at i0) p.0 k) i ≡ Ok y → StmtRead i0 y.0 y.1
  unfolding mode_on
  mode_on_sound i0 p k mid i y known e t h = bind_ok (expr most r 1 i) _ y h (λ x j e2 g. bind_ok (R (expect (f.Mark m.CloseParen)) j) _ y g (λ u j2 e3 g2. bind_ok (R (expect (f.Mark m.Semicolon)) j2) _ y g2 (λ u2 j3 e4 g3.
      let d = a_known_path_sound most r i0 p mid known in
      let o = owner_read i0 p (built.Mode k) mid d.0 e in
      let a = (expr_sound most r 1 (omega arith)).at i x j e2 in
      let high = path_high (owner p.0) o.is in
      let es = expr_spelling x.0 ++ mark m.CloseParen ∷ [] in
      let held = takes_append i (expr_spelling x.0) (mark m.CloseParen ∷ []) j j2 a.takes (expect_ok most r (part most r below) (f.Mark m.CloseParen) j (u, j2) e3) in
      let whole : FitEach i0 (expr_spelling (owner p.0) ++ method (mode_name k) es) j2 = subst (λ v. FitEach i0 v j2) (append_assoc (expr_spelling (owner p.0)) (dot_name (mode_name k)) (mark m.OpenParen ∷ es))
      (takes_append i0 (expr_spelling (owner p.0) ++ dot_name (mode_name k)) (mark m.OpenParen ∷ es) mid j2 o.takes (takes_append mid (mark m.OpenParen ∷ []) es i j2 t held)) in
      yields (StmtRead i0) _ _ y g3 (record {
        takes = takes_append i0 (expr_spelling (owner p.0) ++ method (mode_name k) es) (mark m.Semicolon ∷ []) j2 j3 whole (expect_ok most r (part most r below) (f.Mark m.Semicolon) j2 (u2, j3) e4);
        is = (o.begins, (o.is, a.is.0));
        height = omega (arith, a.height, high);
        low = omega (arith, a.low, d.1);
      }))))

  method_by_sound : (i0 : List Tok) (p : ExprTree × NameKind) (e : Method) (mid i : List Tok) (y : WithHeight StmtTree × List Tok) → a_known_path most r i0 ≡ Ok (p, mid) → path_method p ≡ Some e → FitEach mid (mark m.OpenParen ∷ []) i
      → R (method_by (number_at i0) p.0 e) i ≡ Ok y → StmtRead i0 y.0 y.1
  method_by_sound i0 p built.Randomize mid i y known e t h = call_on_sound i0 p mid i y known e t h
  method_by_sound i0 p (built.Mode k) mid i y known e t h = mode_on_sound i0 p k mid i y known e t h

  behind_by_sound : (i0 : List Tok) (p : ExprTree × NameKind) (mid : List Tok) (o : Option Method) (y : WithHeight StmtTree × List Tok) → a_known_path most r i0 ≡ Ok (p, mid) → path_method p ≡ o → R (behind_by (number_at i0) p.0 o) mid ≡ Ok y → StmtRead i0 y.0 y.1
  behind_by_sound i0 p mid None y known e h = assign_on_sound i0 p mid y known h
  behind_by_sound i0 p mid (Some k) y known e h = led_ok most r (part most r below) (f.Mark m.OpenParen) _ _ mid y h
      (λ i t g. method_by_sound i0 p k mid i y known e t g)
      (λ _ g. assign_on_sound i0 p mid y known g)

  path_stmt_sound : (i : List Tok) (y : WithHeight StmtTree × List Tok) → R path_stmt i ≡ Ok y → StmtRead i y.0 y.1
  unfolding path_stmt behind_target
  path_stmt_sound i y h = bind_ok (a_known_path most r i) _ y h (λ p mid e g. behind_by_sound i p mid (path_method p) y e refl g)

  -- ---- statements that begin with a word or a mark

  empty_sound : (i : List Tok) (y : WithHeight StmtTree × List Tok) → lexeme_at i ≡ Some (lexeme.Mark m.Semicolon) → R empty_stmt i ≡ Ok y → StmtRead i y.0 y.1
  unfolding empty_stmt
  empty_sound i y k h = bind_ok (entered r 0 i) _ y h (λ at j e g.
      yields (StmtRead i) _ _ y g (record { takes = enter_takes r 0 i at j (lexeme.Mark m.Semicolon) [] j e k refl; is = tt; height = refl; low = omega arith }))

  block_sound : (i : List Tok) (y : WithHeight StmtTree × List Tok) → lexeme_at i ≡ Some (lexeme.Word w.Begin) → R block_stmt i ≡ Ok y → StmtRead i y.0 y.1
  unfolding block_stmt
  block_sound i y k h = bind_ok (entered r 0 i) _ y h (λ at j e g. bind_ok (R (until (f.Word w.End) (call a_stmt)) j) _ y g (λ ss j2 e2 g2.
      let d = (until_sound most r (part most r below) (call a_stmt) stmt_spelling IsStmt stmt_height (f.Word w.End) ok).at j ss j2 e2 in
      let high = stmts_height_is ss.0 in
      yields (StmtRead i) _ _ y g2 (record {
        takes = enter_takes r 0 i at j (lexeme.Word w.Begin) (stmts_spelling (stmts_of ss.0) ++ word w.End ∷ []) j2 e k (subst (λ v. FitEach j (v ++ word w.End ∷ []) j2) (sym (stmts_spelling_is ss.0)) d.takes);
        is = are_stmts ss.0 d.is;
        height = omega (arith, d.height, high);
        low = omega (arith, d.low);
      })))

  repeat_sound : (i : List Tok) (y : WithHeight StmtTree × List Tok) → lexeme_at i ≡ Some (lexeme.Word w.Repeat) → R repeat_stmt i ≡ Ok y → StmtRead i y.0 y.1
  unfolding repeat_stmt
  repeat_sound i y k h = bind_ok (entered r 1 i) _ y h (λ at j e g. bind_ok (R (expect (f.Mark m.OpenParen)) j) _ y g (λ u j2 e2 g2. bind_ok (expr most r 1 j2) _ y g2 (λ n j3 e3 g3.
      bind_ok (R (expect (f.Mark m.CloseParen)) j3) _ y g3 (λ u2 j4 e4 g4. bind_ok (below j4) _ y g4 (λ s j5 e5 g5.
      let a = (expr_sound most r 1 (omega arith)).at j2 n j3 e3 in
      let z = ok.at j4 s j5 e5 in
      yields (StmtRead i) _ _ y g5 (record {
        takes = enter_takes r 1 i at j (lexeme.Word w.Repeat) (mark m.OpenParen ∷ (expr_spelling n.0 ++ mark m.CloseParen ∷ stmt_spelling s.0)) j5 e k
            (takes_append j (mark m.OpenParen ∷ []) (expr_spelling n.0 ++ mark m.CloseParen ∷ stmt_spelling s.0) j2 j5 (expect_ok most r (part most r below) (f.Mark m.OpenParen) j (u, j2) e2)
            (takes_append j2 (expr_spelling n.0) (mark m.CloseParen ∷ stmt_spelling s.0) j3 j5 a.takes
            (takes_append j3 (mark m.CloseParen ∷ []) (stmt_spelling s.0) j4 j5 (expect_ok most r (part most r below) (f.Mark m.CloseParen) j3 (u2, j4) e4) z.takes)));
        is = (a.is.0, z.is);
        height = omega (arith, a.height, z.height);
        low = omega (arith, a.low, z.low);
      }))))))

  -- a call in parentheses, and `;`
  record EnclosedRead (at : ℕ) (k : CallForm) (i : List Tok) (y : WithHeight StmtTree) (j : List Tok) : Type 0 where
    c : WithHeight RandomizeTree
    is : y ≡ (tree.call at k c.0, c.1 + 1)
    takes : FitEach i (enclosed_spelling c.0) j
    good : IsRandomize c.0
    height : c.1 ≡ randomize_height c.0
    low : c.1 ≤ r

  enclosed_sound : (at : ℕ) (k : CallForm) (i : List Tok) (y : WithHeight StmtTree × List Tok) → R (enclosed_call at k) i ≡ Ok y → EnclosedRead at k i y.0 y.1
  unfolding enclosed_call
  enclosed_sound at k i y h = bind_ok (R (expect (f.Mark m.OpenParen)) i) _ y h (λ u j e g. bind_ok (R whole_call j) _ y g (λ c j2 e2 g2.
      bind_ok (R (expect (f.Mark m.CloseParen)) j2) _ y g2 (λ u2 j3 e3 g3. bind_ok (R (expect (f.Mark m.Semicolon)) j3) _ y g3 (λ u3 j4 e4 g4.
      let d = (whole_call_sound sets most r below).at j c j2 e2 in
      yields (EnclosedRead at k i) _ _ y g4 (record {
        c = c;
        is = refl;
        takes = takes_append i (mark m.OpenParen ∷ []) (randomize_spelling c.0 ++ mark m.CloseParen ∷ (mark m.Semicolon ∷ [])) j j4 (expect_ok most r (part most r below) (f.Mark m.OpenParen) i (u, j) e)
            (takes_append j (randomize_spelling c.0) (mark m.CloseParen ∷ (mark m.Semicolon ∷ [])) j2 j4 d.takes
            (takes_append j2 (mark m.CloseParen ∷ []) (mark m.Semicolon ∷ []) j3 j4 (expect_ok most r (part most r below) (f.Mark m.CloseParen) j2 (u2, j3) e3) (expect_ok most r (part most r below) (f.Mark m.Semicolon) j3 (u3, j4) e4)));
        good = d.is;
        height = d.height;
        low = d.low;
      })))))

  void_sound : (i : List Tok) (y : WithHeight StmtTree × List Tok) → lexeme_at i ≡ Some (lexeme.Word w.Void) → R void_stmt i ≡ Ok y → StmtRead i y.0 y.1
  unfolding void_stmt
  void_sound i y k h = bind_ok (entered r 1 i) _ y h (λ at j e g. bind_ok (R (expect (f.Mark m.Apostrophe)) j) _ y g (λ u j2 e2 g2.
      let d = enclosed_sound at form.Void j2 y g2 in
      subst (λ z. StmtRead i z y.1) (sym d.is) (record {
        takes = enter_takes r 1 i at j (lexeme.Word w.Void) (mark m.Apostrophe ∷ enclosed_spelling d.c.0) y.1 e k (takes_append j (mark m.Apostrophe ∷ []) (enclosed_spelling d.c.0) j2 y.1 (expect_ok most r (part most r below) (f.Mark m.Apostrophe) j (u, j2) e2) d.takes);
        is = (tt, d.good);
        height = omega (arith, d.height);
        low = omega (arith, d.low);
      })))

  assert_sound : (i : List Tok) (y : WithHeight StmtTree × List Tok) → lexeme_at i ≡ Some (lexeme.Word w.Assert) → R assert_stmt i ≡ Ok y → StmtRead i y.0 y.1
  unfolding assert_stmt
  assert_sound i y k h = bind_ok (entered r 1 i) _ y h (λ at j e g.
      let d = enclosed_sound at form.Assert j y g in
      subst (λ z. StmtRead i z y.1) (sym d.is) (record {
        takes = enter_takes r 1 i at j (lexeme.Word w.Assert) (enclosed_spelling d.c.0) y.1 e k d.takes;
        is = (tt, d.good);
        height = omega (arith, d.height);
        low = omega (arith, d.low);
      }))

  stmt_by_sound : (q : Option Lexeme) (i : List Tok) (y : WithHeight StmtTree × List Tok) → lexeme_at i ≡ q → R (stmt_by q) i ≡ Ok y → StmtRead i y.0 y.1
  stmt_by_sound (Some (lexeme.Mark m.Semicolon)) i y e h = empty_sound i y e h
  stmt_by_sound (Some (lexeme.Word w.Begin)) i y e h = block_sound i y e h
  stmt_by_sound (Some (lexeme.Word w.Repeat)) i y e h = repeat_sound i y e h
  stmt_by_sound (Some (lexeme.Word w.Void)) i y e h = void_sound i y e h
  stmt_by_sound (Some (lexeme.Word w.Assert)) i y e h = assert_sound i y e h
  stmt_by_sound _ i y e h = path_stmt_sound i y h

  stmt_in_sound : IsSound stmt_spelling IsStmt stmt_height (suc r) (R stmt_in)
  unfolding stmt_in
  stmt_in_sound = record { at = λ i x j h. stmt_by_sound (lexeme_at i) i (x, j) refl h }

pub stmt_sound : SetLaws → (most r : ℕ) → IsSound stmt_spelling IsStmt stmt_height r (stmt most r)
unfolding stmt
stmt_sound sets most zero = record { at = λ i x j h. absurd (none_never (WithHeight StmtTree) stmt_starts i (x, j) h) }
stmt_sound sets most (suc r) = stmt_in_sound sets most r (stmt most r) (stmt_sound sets most r)

-- What is read as an item is in the grammar, and spells the tokens; and no `else` follows that it could take.
use Rattle.std.proofs.Common.{◌≡◌, ℕ, zero, suc, ◌≤◌, true, false, List, [], ◌∷◌, ◌++◌, Option, Some, None, Ok, refl, sym, ◌∙◌, subst, arith}
use Rattle.svr_token.specs.declared.Lexeme.{Lexeme}
use Rattle.svr_token.specs.declared.Lexeme.TheVariants as lexeme
use Rattle.svr_token.specs.declared.Word.TheVariants as w
use Rattle.svr_token.specs.declared.Mark.TheVariants as m
use Rattle.svr_operator.specs.declared.BinOp.TheVariants as b
use Rattle.svr_tree.specs.Tokens as tokens
use Rattle.svr_tree.specs.Tokens.{Tok, FitEach, Name, mark, word, word_on, listed, names_listed, Each, OneOrMore}
use Rattle.svr_tree.specs.DeclGrammar.{greatest}
use Rattle.svr_tree.specs.ExprTree.{ExprTree, binary, exprs_of}
use Rattle.svr_tree.specs.ExprGrammar.{expr_spelling, exprs_spelling, level, expr_height, exprs_height}
use Rattle.svr_tree.specs.ItemTree.{DistTree, ItemTree, plain, unique, implies, branch, foreach, disable, solve, items_of}
use Rattle.svr_tree.specs.ItemGrammar.{dist_spelling, item_spelling, items_spelling, set_spelling, else_spelling, IsStated, IsPath, IsMember, AreLoopVars, IsItem, AreItems, IsBlockItem, AreBlockItems, item_height, items_height}
use Rattle.svr_reader.specs.Outcomes.{Parser, lexeme_at, number_at, entered}
use Rattle.svr_reader.specs.declared.fixed.Fixed.TheVariants as f
use Rattle.svr_reader.specs.Program.{call, run, expect}
use Rattle.svr_reader.specs.Lists.{WithHeight, listing, name}
use Rattle.svr_reader.proofs.Steps.{bind_ok, yields, takes_append, expect_ok, led_ok, name_sound}
use Rattle.svr_reader.proofs.Rooms.{none_never}
use Rattle.svr_reader.proofs.Layers.{ReadAs, IsSound}
use Rattle.svr_reader.proofs.Lists.{listing_sound, until_sound}
use Rattle.svr_expr.specs.ExprRules.{a_path, a_member, rest_of_operand, node, expr}
use Rattle.svr_expr_laws.proofs.Trees.{exprs_spelling_is, exprs_height_is, begins}
use Rattle.svr_expr_laws.proofs.SoundParts.{IsAt}
use Rattle.svr_expr_laws.proofs.Sound.{expr_sound, a_path_sound, a_member_sound}
use Rattle.svr_item.specs.ItemRules.{Part, Ans, Rule, a_node, item_set, otherwise, plain_on, implies_on, equivalent_on, expr_item_by, expr_item_on, expr_item, soft_item, unique_item, branch_item, loop_vars, foreach_item, disable_item, solve_item, item_by, item_in, block_item_by, block_item_in, item_starts, block_starts, part, item, block_item, set_items, block_items}
use Rattle.svr_item_laws.proofs.Trees.{close_brace, braced_by, items_spelling_is, items_height_is, are_items, are_block_items, are_paths, are_members}
use Rattle.svr_item_laws.proofs.SoundParts.{Equated, equivalent_on_read, entered_takes, plain_on_sound}
use Rattle.svr_item_laws.proofs.SoundSets.{ItemRead, ReadsItems, sound_items, items_sound, set_sound, otherwise_sound}

expr_item_level : (e : ExprTree) (d : Option DistTree) → 2 ≤ level e → IsStated e d
expr_item_level (binary at b.Equivalent x y) None h = tt
expr_item_level _ _ h = h

expr_item_equal : (x e : ExprTree) → Equated x e → IsStated e None
expr_item_equal x e q = subst (λ v. IsStated v None) (sym q.is) tt

pub block_of : (x : ItemTree) → IsItem x → IsBlockItem x
block_of (plain at soft e d) l = l
block_of (unique at members) l = l
block_of (implies at t body) l = l
block_of (branch at t met unmet) l = l
block_of (foreach at a vars body) l = l
block_of (disable at target) l = l
block_of (solve at first later) l = absurd l

module _ (most r : ℕ) (below : Parser (WithHeight ItemTree)) (ok : ReadsItems IsItem r below) where
  abbrev sub : (k : Part) → Parser (Ans k)
  sub = part most r below

  abbrev R : {A : Type 0} → Rule A → Parser A
  R p = run most r sub p

  abbrev I : List Tok → WithHeight ItemTree → List Tok → Type 0
  I i x j = ItemRead IsItem (suc r) i x j

  -- ---- items that begin with an expression

  plain_sound : (i : List Tok) (x : WithHeight ExprTree) (j : List Tok) (y : WithHeight ItemTree × List Tok) → ReadAs expr_spelling (IsAt 2) expr_height r i x j → R (plain_on (number_at i) false x) j ≡ Ok y → I i y.0 y.1
  plain_sound i x j y s h =
      let d = plain_on_sound most r below (number_at i) false x j y h in
      subst (λ z. I i z y.1) (sym d.all) (record {
        takes = takes_append i (expr_spelling x.0) (dist_spelling d.d ++ mark m.Semicolon ∷ []) j y.1 s.takes d.takes;
        is = ((begins x.0 i j s.is.0 s.takes).at, s.is.0, expr_item_level x.0 d.d s.is.1, d.is);
        height = omega (arith, s.height);
        low = (let a = s.low in let e = d.low in omega (arith, a, e));
        closed = λ v. absurd (cc);
        braced = λ v. braced_by x.0 i j s.takes v;
      })

  implies_on_sound : (i : List Tok) (x : WithHeight ExprTree) (j : List Tok) (y : WithHeight ItemTree × List Tok) → ReadAs expr_spelling (IsAt 2) expr_height r i x j → lexeme_at j ≡ Some (lexeme.Mark m.Arrow) → R (implies_on (number_at i) x) j ≡ Ok y → I i y.0 y.1
  unfolding implies_on
  implies_on_sound i x [] y s k h = absurd (cc)
  implies_on_sound i x (t ∷ j) y s k h = bind_ok (R item_set j) _ y h (λ body j2 e g.
      let d = set_sound most r below ok j (body, j2) e in
      let is : t.lexeme ≡ lexeme.Mark m.Arrow = cc in
      yields (I i) _ _ y g (record {
        takes = takes_append i (expr_spelling x.0) (mark m.Arrow ∷ set_spelling body.0) (t ∷ j) j2 s.takes (is, d.takes);
        is = ((begins x.0 i (t ∷ j) s.is.0 s.takes).at, s.is.0, s.is.1, d.is);
        height = omega (arith, s.height, d.height);
        low = omega (arith, s.low, d.low);
        closed = d.closed;
        braced = λ v. braced_by x.0 i (t ∷ j) s.takes v;
      }))

  equivalent_on_sound : (i : List Tok) (x : WithHeight ExprTree) (j : List Tok) (y : WithHeight ItemTree × List Tok) → ReadAs expr_spelling (IsAt 2) expr_height r i x j → lexeme_at j ≡ Some (lexeme.Mark m.DoubleArrow) → R (equivalent_on (number_at i) x) j ≡ Ok y → I i y.0 y.1
  unfolding equivalent_on
  equivalent_on_sound i x j y s k h = bind_ok (node most r (rest_of_operand (number_at i) x) j) _ y h (λ z j2 e g. bind_ok (R (expect (f.Mark m.Semicolon)) j2) _ y g (λ u j3 e2 g2.
      let p = equivalent_on_read most r i x j z j2 s k e in
      let d = p.0 in
      yields (I i) _ _ y g2 (record {
        takes = takes_append i (expr_spelling z.0) (mark m.Semicolon ∷ []) j2 j3 d.takes (expect_ok most r sub (f.Mark m.Semicolon) j2 (u, j3) e2);
        is = ((begins z.0 i j2 d.is d.takes).at, d.is, expr_item_equal x.0 z.0 p.1, tt);
        height = omega (arith, d.height);
        low = omega (arith, d.low);
        closed = λ v. absurd (cc);
        braced = λ v. braced_by z.0 i j2 d.takes v;
      })))

  expr_item_by_sound : (i : List Tok) (x : WithHeight ExprTree) (j : List Tok) (q : Option Lexeme) (y : WithHeight ItemTree × List Tok) → ReadAs expr_spelling (IsAt 2) expr_height r i x j → lexeme_at j ≡ q → R (expr_item_by (number_at i) x q) j ≡ Ok y → I i y.0 y.1
  expr_item_by_sound i x j (Some (lexeme.Mark m.Arrow)) y s k h = implies_on_sound i x j y s k h
  expr_item_by_sound i x j (Some (lexeme.Mark m.DoubleArrow)) y s k h = equivalent_on_sound i x j y s k h
  expr_item_by_sound i x j _ y s k h = plain_sound i x j y s h

  expr_item_sound : (i : List Tok) (y : WithHeight ItemTree × List Tok) → R expr_item i ≡ Ok y → I i y.0 y.1
  unfolding expr_item expr_item_on
  expr_item_sound i y h = bind_ok (expr most r 2 i) _ y h (λ x j e g. expr_item_by_sound i x j (lexeme_at j) y ((expr_sound most r 2 (omega arith)).at i x j e) refl g)

  -- ---- items that a word leads

  soft_sound : (i : List Tok) (y : WithHeight ItemTree × List Tok) → lexeme_at i ≡ Some (lexeme.Word w.Soft) → R soft_item i ≡ Ok y → I i y.0 y.1
  unfolding soft_item
  soft_sound i y k h = bind_ok (entered r 1 i) _ y h (λ at j0 e0 g0. bind_ok (expr most r 1 j0) _ y g0 (λ x j e g.
      let n = entered_takes r 1 i at j0 (lexeme.Word w.Soft) e0 k in
      let s = (expr_sound most r 1 (omega arith)).at j0 x j e in
      let d = plain_on_sound most r below at true x j y g in
      subst (λ z. I i z y.1) (sym d.all) (record {
        takes = takes_append i (word_on at w.Soft ∷ []) (expr_spelling x.0 ++ (dist_spelling d.d ++ mark m.Semicolon ∷ [])) j0 y.1 n.0 (takes_append j0 (expr_spelling x.0) (dist_spelling d.d ++ mark m.Semicolon ∷ []) j y.1 s.takes d.takes);
        is = (s.is.0, d.is);
        height = omega (arith, s.height);
        low = (let a = s.low in let e2 = d.low in omega (arith, a, e2));
        closed = λ v. absurd (cc);
        braced = λ v. refl;
      })))

  unique_sound : (i : List Tok) (y : WithHeight ItemTree × List Tok) → lexeme_at i ≡ Some (lexeme.Word w.Unique) → R unique_item i ≡ Ok y → I i y.0 y.1
  unfolding unique_item
  unique_sound i y k h = bind_ok (entered r 1 i) _ y h (λ at j0 e0 g0. bind_ok (R (expect (f.Mark m.OpenBrace)) j0) _ y g0 (λ u1 j1 e1 g1.
      bind_ok (R (listing (call (a_node a_member))) j1) _ y g1 (λ xs j2 e2 g2. bind_ok (R (expect (f.Mark m.CloseBrace)) j2) _ y g2 (λ u3 j3 e3 g3. bind_ok (R (expect (f.Mark m.Semicolon)) j3) _ y g3 (λ u4 j4 e4 g4.
      let n = entered_takes r 1 i at j0 (lexeme.Word w.Unique) e0 k in
      let d = (listing_sound most r sub (call (a_node a_member)) expr_spelling IsMember expr_height (a_member_sound most r)).at j1 xs j2 e2 in
      let takes : FitEach j1 (exprs_spelling (exprs_of xs.0)) j2 = subst (λ es. FitEach j1 es j2) (sym (exprs_spelling_is xs.0)) d.takes in
      let high : exprs_height (exprs_of xs.0) ≡ greatest expr_height xs.0 = exprs_height_is xs.0 in
      let ends = mark m.CloseBrace ∷ (mark m.Semicolon ∷ []) in
      yields (I i) _ _ y g4 (record {
        takes = takes_append i (word_on at w.Unique ∷ []) (mark m.OpenBrace ∷ (exprs_spelling (exprs_of xs.0) ++ ends)) j0 j4 n.0
            (takes_append j0 (mark m.OpenBrace ∷ []) (exprs_spelling (exprs_of xs.0) ++ ends) j1 j4 (expect_ok most r sub (f.Mark m.OpenBrace) j0 (u1, j1) e1)
            (takes_append j1 (exprs_spelling (exprs_of xs.0)) ends j2 j4 takes
            (takes_append j2 (mark m.CloseBrace ∷ []) (mark m.Semicolon ∷ []) j3 j4 (expect_ok most r sub (f.Mark m.CloseBrace) j2 (u3, j3) e3) (expect_ok most r sub (f.Mark m.Semicolon) j3 (u4, j4) e4))));
        is = are_members xs.0 d.is;
        height = omega (arith, d.height, high);
        low = omega (arith, d.low);
        closed = λ v. absurd (cc);
        braced = λ v. refl;
      }))))))

  branch_sound : (i : List Tok) (y : WithHeight ItemTree × List Tok) → lexeme_at i ≡ Some (lexeme.Word w.If) → R branch_item i ≡ Ok y → I i y.0 y.1
  unfolding branch_item
  branch_sound i y k h = bind_ok (entered r 1 i) _ y h (λ at j0 e0 g0. bind_ok (R (expect (f.Mark m.OpenParen)) j0) _ y g0 (λ u1 j1 e1 g1. bind_ok (expr most r 1 j1) _ y g1 (λ t j2 e2 g2.
      bind_ok (R (expect (f.Mark m.CloseParen)) j2) _ y g2 (λ u3 j3 e3 g3. bind_ok (R item_set j3) _ y g3 (λ met j4 e4 g4. bind_ok (R otherwise j4) _ y g4 (λ unmet j5 e5 g5.
      let n = entered_takes r 1 i at j0 (lexeme.Word w.If) e0 k in
      let s = (expr_sound most r 1 (omega arith)).at j1 t j2 e2 in
      let p = set_sound most r below ok j3 (met, j4) e4 in
      let q = otherwise_sound most r below ok met.0 j4 (unmet, j5) p.closed e5 in
      let sets = set_spelling met.0 ++ else_spelling unmet.0 in
      yields (I i) _ _ y g5 (record {
        takes = takes_append i (word_on at w.If ∷ []) (mark m.OpenParen ∷ (expr_spelling t.0 ++ mark m.CloseParen ∷ sets)) j0 j5 n.0
            (takes_append j0 (mark m.OpenParen ∷ []) (expr_spelling t.0 ++ mark m.CloseParen ∷ sets) j1 j5 (expect_ok most r sub (f.Mark m.OpenParen) j0 (u1, j1) e1)
            (takes_append j1 (expr_spelling t.0) (mark m.CloseParen ∷ sets) j2 j5 s.takes
            (takes_append j2 (mark m.CloseParen ∷ []) sets j3 j5 (expect_ok most r sub (f.Mark m.CloseParen) j2 (u3, j3) e3)
            (takes_append j3 (set_spelling met.0) (else_spelling unmet.0) j4 j5 p.takes q.takes))));
        is = (s.is.0, p.is, q.is);
        height = omega (arith, s.height, p.height, q.height);
        low = omega (arith, s.low, p.low, q.low);
        closed = q.closed at t.0;
        braced = λ v. refl;
      })))))))

  loop_vars_sound : (i : List Tok) (vars : List ℕ) (j : List Tok) → R loop_vars i ≡ Ok (vars, j) → FitEach i (names_listed vars) j × AreLoopVars vars
  unfolding loop_vars
  loop_vars_sound i vars j h = bind_ok (R name i) _ (vars, j) h (λ u j1 e g.
      let a = name_sound most r sub i u j1 e in
      led_ok most r sub (f.Mark m.Comma) _ _ j1 (vars, j) g
      (λ j2 t g2. bind_ok (R name j2) _ (vars, j) g2 (λ v j3 e2 g3.
      yields (λ z k. FitEach i (names_listed z) k × AreLoopVars z) _ _ (vars, j) g3 (
        takes_append i (Name u ∷ []) (mark m.Comma ∷ (Name v ∷ [])) j1 j3 a (takes_append j1 (mark m.Comma ∷ []) (Name v ∷ []) j2 j3 t (name_sound most r sub j2 v j3 e2)),
        tt,
      )))
      (λ _ g2. yields (λ z k. FitEach i (names_listed z) k × AreLoopVars z) _ _ (vars, j) g2 (a, tt)))

  foreach_sound : (i : List Tok) (y : WithHeight ItemTree × List Tok) → lexeme_at i ≡ Some (lexeme.Word w.Foreach) → R foreach_item i ≡ Ok y → I i y.0 y.1
  unfolding foreach_item
  foreach_sound i y k h = bind_ok (entered r 1 i) _ y h (λ at j0 e0 g0. bind_ok (R (expect (f.Mark m.OpenParen)) j0) _ y g0 (λ u1 j1 e1 g1. bind_ok (node most r a_path j1) _ y g1 (λ a j2 e2 g2.
      bind_ok (R (expect (f.Mark m.OpenBracket)) j2) _ y g2 (λ u3 j3 e3 g3. bind_ok (R loop_vars j3) _ y g3 (λ vars j4 e4 g4. bind_ok (R (expect (f.Mark m.CloseBracket)) j4) _ y g4 (λ u5 j5 e5 g5.
      bind_ok (R (expect (f.Mark m.CloseParen)) j5) _ y g5 (λ u6 j6 e6 g6. bind_ok (R item_set j6) _ y g6 (λ body j7 e7 g7.
      let n = entered_takes r 1 i at j0 (lexeme.Word w.Foreach) e0 k in
      let s = (a_path_sound most r).at j1 a j2 e2 in
      let d = set_sound most r below ok j6 (body, j7) e7 in
      let v = loop_vars_sound j3 vars j4 e4 in
      let es5 = mark m.CloseParen ∷ set_spelling body.0 in
      let es4 = mark m.CloseBracket ∷ es5 in
      let es3 = names_listed vars ++ es4 in
      let es2 = mark m.OpenBracket ∷ es3 in
      yields (I i) _ _ y g7 (record {
        takes = takes_append i (word_on at w.Foreach ∷ []) (mark m.OpenParen ∷ (expr_spelling a.0 ++ es2)) j0 j7 n.0
            (takes_append j0 (mark m.OpenParen ∷ []) (expr_spelling a.0 ++ es2) j1 j7 (expect_ok most r sub (f.Mark m.OpenParen) j0 (u1, j1) e1)
            (takes_append j1 (expr_spelling a.0) es2 j2 j7 s.takes
            (takes_append j2 (mark m.OpenBracket ∷ []) es3 j3 j7 (expect_ok most r sub (f.Mark m.OpenBracket) j2 (u3, j3) e3)
            (takes_append j3 (names_listed vars) es4 j4 j7 v.0
            (takes_append j4 (mark m.CloseBracket ∷ []) es5 j5 j7 (expect_ok most r sub (f.Mark m.CloseBracket) j4 (u5, j5) e5)
            (takes_append j5 (mark m.CloseParen ∷ []) (set_spelling body.0) j6 j7 (expect_ok most r sub (f.Mark m.CloseParen) j5 (u6, j6) e6) d.takes))))));
        is = (s.is, v.1, d.is);
        height = omega (arith, s.height, d.height);
        low = omega (arith, s.low, d.low);
        closed = d.closed;
        braced = λ v2. refl;
      })))))))))

  disable_sound : (i : List Tok) (y : WithHeight ItemTree × List Tok) → lexeme_at i ≡ Some (lexeme.Word w.Disable) → R disable_item i ≡ Ok y → I i y.0 y.1
  unfolding disable_item
  disable_sound i y k h = bind_ok (entered r 1 i) _ y h (λ at j0 e0 g0. bind_ok (R (expect (f.Word w.Soft)) j0) _ y g0 (λ u1 j1 e1 g1. bind_ok (node most r a_member j1) _ y g1 (λ a j2 e2 g2. bind_ok (R (expect (f.Mark m.Semicolon)) j2) _ y g2 (λ u3 j3 e3 g3.
      let n = entered_takes r 1 i at j0 (lexeme.Word w.Disable) e0 k in
      let s = (a_member_sound most r).at j1 a j2 e2 in
      yields (I i) _ _ y g3 (record {
        takes = takes_append i (word_on at w.Disable ∷ []) (word w.Soft ∷ (expr_spelling a.0 ++ mark m.Semicolon ∷ [])) j0 j3 n.0
            (takes_append j0 (word w.Soft ∷ []) (expr_spelling a.0 ++ mark m.Semicolon ∷ []) j1 j3 (expect_ok most r sub (f.Word w.Soft) j0 (u1, j1) e1)
            (takes_append j1 (expr_spelling a.0) (mark m.Semicolon ∷ []) j2 j3 s.takes (expect_ok most r sub (f.Mark m.Semicolon) j2 (u3, j3) e3)));
        is = s.is;
        height = omega (arith, s.height);
        low = omega (arith, s.low);
        closed = λ v. absurd (cc);
        braced = λ v. refl;
      })))))

  solve_sound : (i : List Tok) (y : WithHeight ItemTree × List Tok) → lexeme_at i ≡ Some (lexeme.Word w.Solve) → R solve_item i ≡ Ok y → ItemRead IsBlockItem (suc r) i y.0 y.1
  unfolding solve_item
  solve_sound i y k h = bind_ok (entered r 1 i) _ y h (λ at j0 e0 g0. bind_ok (R (listing (call (a_node a_path))) j0) _ y g0 (λ xs j1 e1 g1. bind_ok (R (expect (f.Word w.Before)) j1) _ y g1 (λ u2 j2 e2 g2.
      bind_ok (R (listing (call (a_node a_path))) j2) _ y g2 (λ zs j3 e3 g3. bind_ok (R (expect (f.Mark m.Semicolon)) j3) _ y g3 (λ u4 j4 e4 g4.
      let n = entered_takes r 1 i at j0 (lexeme.Word w.Solve) e0 k in
      let paths = listing_sound most r sub (call (a_node a_path)) expr_spelling IsPath expr_height (a_path_sound most r) in
      let c = paths.at j0 xs j1 e1 in
      let d = paths.at j2 zs j3 e3 in
      let firsts : FitEach j0 (exprs_spelling (exprs_of xs.0)) j1 = subst (λ es. FitEach j0 es j1) (sym (exprs_spelling_is xs.0)) c.takes in
      let laters : FitEach j2 (exprs_spelling (exprs_of zs.0)) j3 = subst (λ es. FitEach j2 es j3) (sym (exprs_spelling_is zs.0)) d.takes in
      let high : exprs_height (exprs_of xs.0) ≡ greatest expr_height xs.0 = exprs_height_is xs.0 in
      let high2 : exprs_height (exprs_of zs.0) ≡ greatest expr_height zs.0 = exprs_height_is zs.0 in
      yields (ItemRead IsBlockItem (suc r) i) _ _ y g4 (record {
        takes = takes_append i (word_on at w.Solve ∷ []) (exprs_spelling (exprs_of xs.0) ++ word w.Before ∷ (exprs_spelling (exprs_of zs.0) ++ mark m.Semicolon ∷ [])) j0 j4 n.0
            (takes_append j0 (exprs_spelling (exprs_of xs.0)) (word w.Before ∷ (exprs_spelling (exprs_of zs.0) ++ mark m.Semicolon ∷ [])) j1 j4 firsts
            (takes_append j1 (word w.Before ∷ []) (exprs_spelling (exprs_of zs.0) ++ mark m.Semicolon ∷ []) j2 j4 (expect_ok most r sub (f.Word w.Before) j1 (u2, j2) e2)
            (takes_append j2 (exprs_spelling (exprs_of zs.0)) (mark m.Semicolon ∷ []) j3 j4 laters (expect_ok most r sub (f.Mark m.Semicolon) j3 (u4, j4) e4))));
        is = (are_paths xs.0 c.is, are_paths zs.0 d.is);
        height = omega (arith, c.height, d.height, high, high2);
        low = omega (arith, c.low, d.low);
        closed = λ v. absurd (cc);
        braced = λ v. refl;
      }))))))

  -- ---- items

  item_by_sound : (q : Option Lexeme) (i : List Tok) (y : WithHeight ItemTree × List Tok) → lexeme_at i ≡ q → R (item_by q) i ≡ Ok y → I i y.0 y.1
  item_by_sound (Some (lexeme.Word w.Soft)) i y k h = soft_sound i y k h
  item_by_sound (Some (lexeme.Word w.Unique)) i y k h = unique_sound i y k h
  item_by_sound (Some (lexeme.Word w.If)) i y k h = branch_sound i y k h
  item_by_sound (Some (lexeme.Word w.Foreach)) i y k h = foreach_sound i y k h
  item_by_sound (Some (lexeme.Word w.Disable)) i y k h = disable_sound i y k h
  item_by_sound _ i y k h = expr_item_sound i y h

  pub item_in_sound : ReadsItems IsItem (suc r) (R item_in)
  unfolding item_in
  item_in_sound i x j h = item_by_sound (lexeme_at i) i (x, j) refl h

  widened : (i : List Tok) (x : WithHeight ItemTree) (j : List Tok) → I i x j → ItemRead IsBlockItem (suc r) i x j
  widened i x j d = record { takes = d.takes; is = block_of x.0 d.is; height = d.height; low = d.low; closed = d.closed; braced = d.braced }

  block_by_sound : (q : Option Lexeme) (i : List Tok) (y : WithHeight ItemTree × List Tok) → lexeme_at i ≡ q → R (block_item_by q) i ≡ Ok y → ItemRead IsBlockItem (suc r) i y.0 y.1
  block_by_sound (Some (lexeme.Word w.Solve)) i y k h = solve_sound i y k h
  block_by_sound q i y k h = widened i y.0 y.1 (item_by_sound q i y k h)

  pub block_in_sound : ReadsItems IsBlockItem (suc r) (R block_item_in)
  unfolding block_item_in
  block_in_sound i x j h = block_by_sound (lexeme_at i) i (x, j) refl h

-- ---- items of every height

pub item_read : (most r : ℕ) → ReadsItems IsItem r (item most r)
unfolding item
item_read most zero i x j h = absurd (none_never (WithHeight ItemTree) item_starts i (x, j) h)
item_read most (suc r) i x j h = item_in_sound most r (item most r) (item_read most r) i x j h

pub block_item_read : (most r : ℕ) → ReadsItems IsBlockItem r (block_item most r)
unfolding block_item
block_item_read most zero i x j h = absurd (none_never (WithHeight ItemTree) block_starts i (x, j) h)
block_item_read most (suc r) i x j h = block_in_sound most r (item most r) (item_read most r) i x j h

pub item_sound : (most r : ℕ) → IsSound item_spelling IsItem item_height r (item most r)
item_sound most r = sound_items (item_read most r)

pub block_item_sound : (most r : ℕ) → IsSound item_spelling IsBlockItem item_height r (block_item most r)
block_item_sound most r = sound_items (block_item_read most r)

-- items and the brace that closes them
abbrev pub ended_spelling : List ItemTree → List tokens.Entry
ended_spelling xs = items_spelling (items_of xs) ++ mark m.CloseBrace ∷ []

abbrev pub all_height : List ItemTree → ℕ
all_height xs = items_height (items_of xs)

pub set_items_sound : (most r : ℕ) → IsSound ended_spelling (λ xs. AreItems (items_of xs)) all_height r (set_items most r)
unfolding set_items
set_items_sound most r = record {
  at = λ i xs j h. let d = (items_sound most r (item most r) (item_read most r)).at i xs j h in record {
    takes = subst (λ es. FitEach i (es ++ mark m.CloseBrace ∷ []) j) (sym (items_spelling_is xs.0)) d.takes;
    is = are_items xs.0 d.is;
    height = d.height ∙ sym (items_height_is xs.0);
    low = d.low;
  };
}

pub block_items_sound : (most r : ℕ) → IsSound ended_spelling (λ xs. AreBlockItems (items_of xs)) all_height r (block_items most r)
unfolding block_items
block_items_sound most r = record {
  at = λ i xs j h. let d = (until_sound {K = Unit {0}} {Ans = λ _. WithHeight ItemTree} most r (λ _. block_item most r) (call tt) item_spelling IsBlockItem item_height close_brace (block_item_sound most r)).at i xs j h in record {
    takes = subst (λ es. FitEach i (es ++ mark m.CloseBrace ∷ []) j) (sym (items_spelling_is xs.0)) d.takes;
    is = are_block_items xs.0 d.is;
    height = d.height ∙ sym (items_height_is xs.0);
    low = d.low;
  };
}

-- What is read of a right side is what the grammar has there.
use Rattle.std.proofs.Common.{◌≡◌, ℕ, zero, suc, ◌≤◌, true, false, List, [], ◌∷◌, Option, Some, None, Ok, refl, sym, ◌∙◌, ap, subst, arith}
use Rattle.svr_token.specs.declared.Lexeme.{Lexeme}
use Rattle.svr_token.specs.declared.Lexeme.TheVariants as lexeme
use Rattle.svr_token.specs.declared.Word.TheVariants as w
use Rattle.svr_token.specs.declared.Mark.TheVariants as m
use Rattle.svr_token.specs.declared.NameKind.{NameKind}
use Rattle.svr_tree.specs.declared.stmt.RandomizeArgs.TheVariants as args
use Rattle.svr_tree.specs.Tokens.{Tok, FitEach, mark}
use Rattle.svr_tree.specs.ExprTree.{ExprTree, ExprTrees, no_exprs, more_exprs, exprs_of}
use Rattle.svr_tree.specs.ExprGrammar.{expr_spelling, exprs_spelling, AreExprs, EachIsExpr}
use Rattle.svr_tree.specs.StmtTree as tree
use Rattle.svr_tree.specs.StmtTree.{RightTree, RandomizeTree, StmtTree}
use Rattle.svr_tree.specs.StmtGrammar.{right_spelling, IsRight, right_height}
use Rattle.svr_reader.specs.Outcomes.{Parser, lexeme_at, number_at}
use Rattle.svr_reader.specs.declared.fixed.Fixed.TheVariants as f
use Rattle.svr_reader.specs.Program.{pure, run, expect}
use Rattle.svr_reader.specs.Steps.{sees}
use Rattle.svr_reader.specs.Lists.{WithHeight}
use Rattle.svr_reader.proofs.Steps.{bind_ok, yields, takes_append, takes_length, lexeme_of, choose_ok, expect_ok, led_ok, fixed_self}
use Rattle.svr_reader.proofs.Layers.{ReadAs, IsSound}
use Rattle.svr_expr.specs.declared.connective.Connective.{Connective}
use Rattle.svr_expr.specs.Connectives.{connective_of}
use Rattle.svr_expr.specs.ExprRules.{an_expr, rest_of_path, rest_of_operand, node, expr, a_known_path, some_exprs, path_starts, with_parens}
use Rattle.svr_expr_laws.proofs.Trees.{parens}
use Rattle.svr_expr_laws.proofs.Sound.{primary_binding, expr_sound, a_known_path_sound, rest_sound, connectives_sound, some_exprs_sound}
use Rattle.svr_stmt.specs.declared.method.Method.{Method}
use Rattle.svr_stmt.specs.declared.method.Method.TheVariants as built
use Rattle.svr_stmt.specs.StmtRules.{Rule, path_method, randomize_end, randomize_given, new_by, new_right, pattern_right, value_right, answer_right, is_connective, behind_parens, behind_open, behind_path, path_right_by, path_right, right_by, right_in, part}
use Rattle.svr_stmt_laws.proofs.Sets.{SetLaws}
use Rattle.svr_stmt_laws.proofs.Methods.{owner_read}
use Rattle.svr_stmt_laws.proofs.SoundCalls.{CallOpens, call_opens, randomize_end_sound, randomize_given_sound}
use Rattle.svr_stmt_laws.proofs.Values.{value_takes, plain_takes, left_called, called_level, connectives_take}

-- a list of one or more is one of none or more
each_of_exprs : (xs : ExprTrees) → AreExprs xs → EachIsExpr xs
each_of_exprs no_exprs h = absurd h
each_of_exprs (more_exprs x xs) h = h

pub connective_seen : {G : Type 0} (o : Option Connective) → is_connective o ≡ true → ((k : Connective) → o ≡ Some k → G) → G
connective_seen (Some k) h g = g k refl
connective_seen None h g = absurd (cc)

module _ (sets : SetLaws) (most r : ℕ) (below : Parser (WithHeight StmtTree)) where
  abbrev R : {A : Type 0} → Rule A → Parser A
  R p = run most r (part most r below) p

  abbrev RightRead : List Tok → WithHeight RightTree → List Tok → Type 0
  RightRead i x j = ReadAs right_spelling IsRight right_height r i x j

  -- ---- `new` and patterns

  new_by_sound : (t : Tok) (q : Option Lexeme) (i : List Tok) (y : WithHeight RightTree × List Tok) → t.lexeme ≡ lexeme.Word w.New → lexeme_at i ≡ q → R (new_by q) i ≡ Ok y → RightRead (t ∷ i) y.0 y.1
  new_by_sound t (Some (lexeme.Mark m.OpenParen)) [] y k e h = absurd (cc)
  new_by_sound t (Some (lexeme.Mark m.OpenParen)) (u ∷ i) y k e h = bind_ok (R (expect (f.Mark m.CloseParen)) i) _ y h (λ n j e2 g.
      let is : u.lexeme ≡ lexeme.Mark m.OpenParen = cc in
      yields (RightRead (t ∷ (u ∷ i))) _ _ y g (record { takes = (k, (is, expect_ok most r (part most r below) (f.Mark m.CloseParen) i (n, j) e2)); is = tt; height = refl; low = omega arith }))
  new_by_sound t (Some (lexeme.Mark m.OpenBracket)) [] y k e h = absurd (cc)
  new_by_sound t (Some (lexeme.Mark m.OpenBracket)) (u ∷ i) y k e h = bind_ok (expr most r 1 i) _ y h (λ x j e2 g. bind_ok (R (expect (f.Mark m.CloseBracket)) j) _ y g (λ n j2 e3 g2.
      let is : u.lexeme ≡ lexeme.Mark m.OpenBracket = cc in
      let d = (expr_sound most r 1 (omega arith)).at i x j e2 in
      yields (RightRead (t ∷ (u ∷ i))) _ _ y g2 (record {
        takes = (k, (is, takes_append i (expr_spelling x.0) (mark m.CloseBracket ∷ []) j j2 d.takes (expect_ok most r (part most r below) (f.Mark m.CloseBracket) j (n, j2) e3)));
        is = d.is.0;
        height = d.height;
        low = d.low;
      })))
  new_by_sound t _ i y k e h = yields (RightRead (t ∷ i)) _ _ y h (record { takes = (k, refl); is = tt; height = refl; low = omega arith })

  pattern_sound : (t : Tok) (i : List Tok) (y : WithHeight RightTree × List Tok) → t.lexeme ≡ lexeme.Mark m.OpenPattern → R pattern_right (t ∷ i) ≡ Ok y → RightRead (t ∷ i) y.0 y.1
  unfolding pattern_right
  pattern_sound t i y k h = led_ok most r (part most r below) (f.Mark m.CloseBrace) _ _ i y h
      (λ mid s g. yields (RightRead (t ∷ i)) _ _ y g (record { takes = ((refl, k), s); is = tt; height = refl; low = omega arith }))
      (λ _ g. bind_ok (some_exprs most r i) _ y g (λ xs j e2 g2. bind_ok (R (expect (f.Mark m.CloseBrace)) j) _ y g2 (λ n j2 e3 g3.
      let d = (some_exprs_sound most r).at i xs j e2 in
      yields (RightRead (t ∷ i)) _ _ y g3 (record {
        takes = ((refl, k), takes_append i (exprs_spelling (exprs_of xs.0)) (mark m.CloseBrace ∷ []) j j2 d.takes (expect_ok most r (part most r below) (f.Mark m.CloseBrace) j (n, j2) e3));
        is = each_of_exprs (exprs_of xs.0) d.is;
        height = d.height;
        low = d.low;
      }))))

  -- ---- right sides that begin with a path, which was read from i0

  answer_sound : (i0 : List Tok) (p : Rule (WithHeight RandomizeTree)) (i : List Tok) (y : WithHeight RightTree × List Tok) → ((c : WithHeight RandomizeTree) (j : List Tok) → R p i ≡ Ok (c, j) → RightRead i0 (tree.answer c.0, c.1) j) → R (answer_right p) i ≡ Ok y → RightRead i0 y.0 y.1
  unfolding answer_right
  answer_sound i0 p i y v h = bind_ok (R p i) _ y h (λ c j e g. yields (RightRead i0) _ _ y g (v c j e))

  end_sound : (i0 : List Tok) (p : ExprTree) (i mid : List Tok) (y : WithHeight RightTree × List Tok) → 1 ≤ r → CallOpens i0 p i → FitEach i (mark m.CloseParen ∷ []) mid → R (answer_right (randomize_end p args.Empty)) mid ≡ Ok y → RightRead i0 y.0 y.1
  end_sound i0 p i mid y fits o close h = answer_sound i0 (randomize_end p args.Empty) mid y (λ c j e.
      let d = randomize_end_sound sets most r below i0 p args.Empty i mid (c, j) fits o.1 tt o.0 close e in record { takes = d.takes; is = d.is; height = d.height; low = d.low }) h

  call_arguments_sound : (i0 : List Tok) (p : ExprTree) (i : List Tok) (y : WithHeight RightTree × List Tok) → 1 ≤ r → CallOpens i0 p i → R (answer_right (randomize_given p)) i ≡ Ok y → RightRead i0 y.0 y.1
  call_arguments_sound i0 p i y fits o h = answer_sound i0 (randomize_given p) i y (λ c j e.
      let d = randomize_given_sound sets most r below i0 p i (c, j) fits o e in record { takes = d.takes; is = d.is; height = d.height; low = d.low }) h

  -- `path.randomize()` is an operand
  operand_sound : (i0 : List Tok) (p : ExprTree × NameKind) (mid i : List Tok) (k : Connective) (y : WithHeight RightTree × List Tok) → a_known_path most r i0 ≡ Ok (p, mid) → FitEach mid parens i → connective_of (lexeme_at i) ≡ Some k
      → R (value_right (rest_of_operand (number_at i0) (with_parens p.0, 1))) i ≡ Ok y → RightRead i0 y.0 y.1
  unfolding value_right
  operand_sound i0 p mid i k y known close seen h = bind_ok (node most r (rest_of_operand (number_at i0) (with_parens p.0, 1)) i) _ y h (λ x j e g. by r x j known e g)
    where
      by : (n : ℕ) (x : WithHeight ExprTree) (j : List Tok) → a_known_path most n i0 ≡ Ok (p, mid) → node most n (rest_of_operand (number_at i0) (with_parens p.0, 1)) i ≡ Ok (x, j) → R (pure (tree.value x.0, x.1)) j ≡ Ok y → ReadAs right_spelling IsRight right_height n i0 y.0 y.1
      by zero x j known e g = absurd (let d = a_known_path_sound most zero i0 p mid known in omega (arith, d.1))
      by (suc n) x j known e g =
          let l = left_called n i0 p mid i (a_known_path_sound most (suc n) i0 p mid known).0 close in
          let d = connectives_sound most n (number_at i0) i0 (with_parens p.0, 1) i x j l (primary_binding (with_parens p.0) (called_level (a_known_path_sound most (suc n) i0 p mid known).0) i) e in
          let less = connectives_take most (suc n) (number_at i0) (with_parens p.0, 1) k i x j seen e in
          let one = takes_length mid parens i close in
          yields (ReadAs right_spelling IsRight right_height (suc n) i0) _ _ y g (record {
            takes = value_takes most (suc n) i0 p mid known x.0 j d.is.0 d.takes (λ _ close2. let two = takes_length mid parens j close2 in omega (arith, less, one, two));
            is = d.is.0;
            height = d.height;
            low = d.low;
          })

  parens_of : (t : Tok) (mid i z : List Tok) → mid ≡ t ∷ i → t.lexeme ≡ lexeme.Mark m.OpenParen → FitEach i (mark m.CloseParen ∷ []) z → FitEach mid parens z
  parens_of t mid i z e k h = subst (λ v. FitEach v parens z) (sym e) (k, h)

  behind_open_sound : (i0 : List Tok) (p : ExprTree × NameKind) (mid i : List Tok) (y : WithHeight RightTree × List Tok) → a_known_path most r i0 ≡ Ok (p, mid) → path_method p ≡ Some built.Randomize → FitEach mid (mark m.OpenParen ∷ []) i
      → R (behind_open (number_at i0) p.0) i ≡ Ok y → RightRead i0 y.0 y.1
  unfolding behind_open behind_parens
  behind_open_sound i0 p mid i y known e opened h =
      let d = a_known_path_sound most r i0 p mid known in
      let o = call_opens i0 p.0 mid i (owner_read i0 p built.Randomize mid d.0 e) opened in
      led_ok most r (part most r below) (f.Mark m.CloseParen) _ _ i y h
      (λ z t g. choose_ok most r (part most r below) (is_connective (connective_of (lexeme_at z))) _ _ z (Ok y) g
      (λ seen g2. connective_seen (connective_of (lexeme_at z)) seen (λ k is. operand_sound i0 p mid z k y known (takes_append mid (mark m.OpenParen ∷ []) (mark m.CloseParen ∷ []) i z opened t) is g2))
      (λ _ g2. end_sound i0 p.0 i z y d.1 o t g2))
      (λ _ g. call_arguments_sound i0 p.0 i y d.1 o g)

  behind_path_sound : (i0 : List Tok) (p : ExprTree × NameKind) (mid : List Tok) (y : WithHeight RightTree × List Tok) → a_known_path most r i0 ≡ Ok (p, mid) → (path_method p ≡ Some built.Randomize → sees (f.Mark m.OpenParen) mid ≡ false)
      → R (behind_path (number_at i0) p) mid ≡ Ok y → RightRead i0 y.0 y.1
  unfolding behind_path value_right
  behind_path_sound i0 p mid y known no_call h = bind_ok (node most r (rest_of_path (number_at i0) p) mid) _ y h (λ x j e g. by r x j known e g)
    where
      apart : (j : List Tok) → sees (f.Mark m.OpenParen) mid ≡ false → FitEach mid parens j → ⊥
      apart j none close = let some = fixed_self (f.Mark m.OpenParen) (lexeme_at mid) (lexeme_of mid j (lexeme.Mark m.OpenParen) (mark m.CloseParen ∷ []) close) in absurd (cc)

      by : (n : ℕ) (x : WithHeight ExprTree) (j : List Tok) → a_known_path most n i0 ≡ Ok (p, mid) → node most n (rest_of_path (number_at i0) p) mid ≡ Ok (x, j) → R (pure (tree.value x.0, x.1)) j ≡ Ok y → ReadAs right_spelling IsRight right_height n i0 y.0 y.1
      by zero x j known e g = absurd (let d = a_known_path_sound most zero i0 p mid known in omega (arith, d.1))
      by (suc n) x j known e g =
          let d = rest_sound most n i0 p mid x j (a_known_path_sound most (suc n) i0 p mid known).0 e in
          yields (ReadAs right_spelling IsRight right_height (suc n) i0) _ _ y g (record {
            takes = value_takes most (suc n) i0 p mid known x.0 j d.is.0 d.takes (λ is close. apart j (no_call is) close);
            is = d.is.0;
            height = d.height;
            low = d.low;
          })

  path_right_by_sound : (i0 : List Tok) (p : ExprTree × NameKind) (mid : List Tok) (o : Option Method) (y : WithHeight RightTree × List Tok) → a_known_path most r i0 ≡ Ok (p, mid) → path_method p ≡ o → R (path_right_by (number_at i0) p o) mid ≡ Ok y → RightRead i0 y.0 y.1
  path_right_by_sound i0 p mid (Some built.Randomize) y known e h = led_ok most r (part most r below) (f.Mark m.OpenParen) _ _ mid y h
      (λ i t g. behind_open_sound i0 p mid i y known e t g)
      (λ none g. behind_path_sound i0 p mid y known (λ _. none) g)
  path_right_by_sound i0 p mid (Some (built.Mode k)) y known e h = behind_path_sound i0 p mid y known (λ e2. absurd (apart (sym e ∙ e2))) h
    where
      apart : ◌≡◌ {A = Option Method} (Some (built.Mode k)) (Some built.Randomize) → ⊥
      apart z = absurd (cc)
  path_right_by_sound i0 p mid None y known e h = behind_path_sound i0 p mid y known (λ e2. absurd (apart (sym e ∙ e2))) h
    where
      apart : ◌≡◌ {A = Option Method} None (Some built.Randomize) → ⊥
      apart z = absurd (cc)

  path_right_sound : (i : List Tok) (y : WithHeight RightTree × List Tok) → R path_right i ≡ Ok y → RightRead i y.0 y.1
  unfolding path_right
  path_right_sound i y h = bind_ok (a_known_path most r i) _ y h (λ p mid e g. path_right_by_sound i p mid (path_method p) y e refl g)

  -- ---- right sides

  plain_sound : (i : List Tok) (y : WithHeight RightTree × List Tok) → path_starts (lexeme_at i) ≡ false → R (value_right (an_expr 1)) i ≡ Ok y → RightRead i y.0 y.1
  unfolding value_right
  plain_sound i y none h = bind_ok (expr most r 1 i) _ y h (λ x j e g.
      let d = (expr_sound most r 1 (omega arith)).at i x j e in
      yields (RightRead i) _ _ y g (record { takes = plain_takes x.0 i j none d.is.0 d.takes; is = d.is.0; height = d.height; low = d.low }))

  right_by_sound : (q : Option Lexeme) (i : List Tok) (y : WithHeight RightTree × List Tok) → lexeme_at i ≡ q → R (right_by q) i ≡ Ok y → RightRead i y.0 y.1
  unfolding new_right
  right_by_sound (Some (lexeme.Word w.New)) [] y e h = absurd (cc)
  right_by_sound (Some (lexeme.Word w.New)) (t ∷ i) y e h = let is : t.lexeme ≡ lexeme.Word w.New = cc in new_by_sound t (lexeme_at i) i y is refl h
  right_by_sound (Some (lexeme.Mark m.OpenPattern)) [] y e h = absurd (cc)
  right_by_sound (Some (lexeme.Mark m.OpenPattern)) (t ∷ i) y e h = let is : t.lexeme ≡ lexeme.Mark m.OpenPattern = cc in pattern_sound t i y is h
  right_by_sound q i y e h = choose_ok most r (part most r below) (path_starts q) path_right (value_right (an_expr 1)) i (Ok y) h
      (λ _ g. path_right_sound i y g)
      (λ none g. plain_sound i y (ap path_starts e ∙ none) g)

  pub right_sound : IsSound right_spelling IsRight right_height r (R right_in)
  unfolding right_in
  right_sound = record { at = λ i x j h. right_by_sound (lexeme_at i) i (x, j) refl h }

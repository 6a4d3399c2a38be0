-- What is read of the parts of an expression is what the grammar has there.
use Rattle.std.proofs.Common.{◌≡◌, ℕ, zero, suc, ◌+◌, ◌≤◌, Bool, true, false, List, [], ◌∷◌, ◌++◌, Option, Some, None, Ok, refl, sym, ◌∙◌, ap, subst, arith}
use Rattle.svr_token.specs.declared.Lexeme.{Lexeme}
use Rattle.svr_token.specs.declared.Lexeme.TheVariants as lexeme
use Rattle.svr_token.specs.declared.Word.TheVariants as w
use Rattle.svr_token.specs.declared.Mark.{Mark}
use Rattle.svr_token.specs.declared.Mark.TheVariants as m
use Rattle.svr_token.specs.declared.NameKind.{NameKind}
use Rattle.svr_token.specs.declared.SystemName.{SystemName}
use Rattle.svr_token.specs.declared.SystemName.TheVariants as system
use Rattle.svr_operator.specs.declared.UnOp.{UnOp}
use Rattle.svr_operator.specs.declared.Fold.{Fold}
use Rattle.svr_tree.specs.declared.expr.IteratorArgument.{IteratorArgument}
use Rattle.svr_tree.specs.declared.expr.IteratorArgument.TheVariants as iterator
use Rattle.svr_tree.specs.Tokens.{Tok, FitEach, mark, listed, Each, OneOrMore, word}
use Rattle.svr_tree.specs.DeclGrammar.{greatest}
use Rattle.svr_tree.specs.Operators.{unary_mark, fold_name, unary_level}
use Rattle.svr_tree.specs.ExprTree.{ExprTree, RangeTree, BoundTree, exprs_of, path}
use Rattle.svr_tree.specs.ExprGrammar.{system_name, expr_spelling, exprs_spelling, range_spelling, bound_spelling, level, start, is_selectable, IsExpr, IsRange, IsBound, expr_height, exprs_height, range_height, bound_height, argument_spelling}
use Rattle.svr_reader.specs.Outcomes.{Turn, go, done, Parser, lexeme_at, number_at, entered, turns}
use Rattle.svr_reader.specs.declared.fixed.Fixed.TheVariants as f
use Rattle.svr_reader.specs.Program.{call, run, expect}
use Rattle.svr_reader.specs.Lists.{WithHeight, listing_on}
use Rattle.svr_reader.proofs.Steps.{bind_ok, yields, turn_ok, takes_append, entered_ok, expect_ok, led_ok, takes_parts}
use Rattle.svr_reader.proofs.Layers.{ReadAs, IsSound, sound_of}
use Rattle.svr_reader.proofs.Lists.{Behind, listing_sound, listing_on_sound}
use Rattle.svr_expr.specs.Connectives.{unary_of}
use Rattle.svr_expr.specs.ExprRules.{Rule, known_path, path_in, parens_on, select_on, suffix_by, suffix_step, with_suffixes, path_expr, exprs, bound_by, bound, span_on, range_by, range, ranges, literal, paren_expr, is_signed, sign_expr, copies_on, join_on, brace_expr, unary_expr, unary_by, prefix_by, prefix, with_parens, owner, path_fold, body_on, called_by, argument_on, argument_by, fold_by, path_on_by, path_rest}
use Rattle.svr_expr_laws.proofs.Connectives.{unary_back}
use Rattle.svr_expr_laws.proofs.Trees.{parens, with_parens_spelling, with_parens_is, with_parens_height, with_parens_level, selectable_level, exprs_spelling_is, exprs_height_is, are_exprs, with_rest, body_rest, reduce_rest}
use Rattle.svr_expr_laws.proofs.Folds.{IsFoldPath, fold_path}
use Rattle.svr_expr_laws.proofs.Names.{known_spells, known_path_sound, KnownPath, last_name}

-- an expression of at least this level
abbrev pub IsAt : ℕ → ExprTree → Type 0
IsAt least e = IsExpr e × (least ≤ level e)

-- one that binds like a primary
abbrev pub IsPrimary : ExprTree → Type 0
IsPrimary e = IsExpr e × (level e ≡ unary_level)

abbrev pub Exprs : Type 0
Exprs = List ExprTree

-- a path and its selects, read from i0, which go on at i
pub record IsBase (r at : ℕ) (i0 : List Tok) (x : WithHeight ExprTree) (i : List Tok) : Type 0 where
  pub takes : FitEach i0 (expr_spelling x.0) i
  pub is : IsExpr x.0
  pub selects : is_selectable x.0 ≡ true
  pub height : x.1 ≡ expr_height x.0
  pub low : x.1 ≤ suc r
  pub begins : at ≡ start x.0

abbrev pub ReadPrimary : ℕ → List Tok → WithHeight ExprTree → List Tok → Type 0
ReadPrimary r i x j = ReadAs expr_spelling IsPrimary expr_height (suc r) i x j

pub first_of : (t : Tok) (j i : List Tok) (q : Option Lexeme) → i ≡ t ∷ j → lexeme_at i ≡ q → Some t.lexeme ≡ q
first_of t j i q is e = sym (ap lexeme_at is) ∙ e

module _ (most r : ℕ) (sub : ℕ → Parser (WithHeight ExprTree)) (ok : (least : ℕ) → least ≤ unary_level → IsSound expr_spelling (IsAt least) expr_height r (sub least)) where
  abbrev R : {A : Type 0} → Rule A → Parser A
  R p = run most r sub p

  -- ---- lists, bounds, ranges

  one_sound : IsSound expr_spelling IsExpr expr_height r (sub 1)
  one_sound = sound_of (ok 1 (omega arith)) (λ x h. h.0)

  pub exprs_sound : IsSound (listed expr_spelling) (OneOrMore IsExpr) (greatest expr_height) r (R exprs)
  unfolding exprs
  exprs_sound = listing_sound most r sub (call 1) expr_spelling IsExpr expr_height one_sound

  bound_by_sound : (q : Option Lexeme) (i : List Tok) (y : WithHeight BoundTree × List Tok) → lexeme_at i ≡ q → R (bound_by q) i ≡ Ok y → ReadAs bound_spelling IsBound bound_height r i y.0 y.1
  bound_by_sound (Some (lexeme.Mark m.Dollar)) [] y e h = absurd (cc)
  bound_by_sound (Some (lexeme.Mark m.Dollar)) (t ∷ i) y e h = let is : t.lexeme ≡ lexeme.Mark m.Dollar = cc in
      yields (ReadAs bound_spelling IsBound bound_height r (t ∷ i)) _ _ y h (record { takes = (is, refl); is = tt; height = refl; low = omega arith })
  bound_by_sound _ i y e h = bind_ok (sub 1 i) _ y h (λ x j e2 g.
      let s = one_sound.at i x j e2 in
      yields (ReadAs bound_spelling IsBound bound_height r i) _ _ y g (record { takes = s.takes; is = s.is; height = s.height; low = s.low }))

  bound_sound : IsSound bound_spelling IsBound bound_height r (R bound)
  unfolding bound
  bound_sound = record { at = λ i x j h. bound_by_sound (lexeme_at i) i (x, j) refl h }

  span_on_sound : (t : Tok) (i : List Tok) (y : WithHeight RangeTree × List Tok) → t.lexeme ≡ lexeme.Mark m.OpenBracket → R span_on i ≡ Ok y → ReadAs range_spelling IsRange range_height r (t ∷ i) y.0 y.1
  unfolding span_on
  span_on_sound t i y k h =
      bind_ok (R bound i) _ y h (λ lo j e g. bind_ok (R (expect (f.Mark m.Colon)) j) _ y g (λ u j2 e2 g2.
      bind_ok (R bound j2) _ y g2 (λ hi j3 e3 g3. bind_ok (R (expect (f.Mark m.CloseBracket)) j3) _ y g3 (λ u2 j4 e4 g4.
      let a = bound_sound.at i lo j e in
      let z = bound_sound.at j2 hi j3 e3 in
      let colon : FitEach j (mark m.Colon ∷ []) j2 = expect_ok most r sub (f.Mark m.Colon) j (u, j2) e2 in
      let close : FitEach j3 (mark m.CloseBracket ∷ []) j4 = expect_ok most r sub (f.Mark m.CloseBracket) j3 (u2, j4) e4 in
      yields (ReadAs range_spelling IsRange range_height r (t ∷ i)) _ _ y g4 (record {
        takes = (
          k,
          takes_append i (bound_spelling lo.0) (mark m.Colon ∷ (bound_spelling hi.0 ++ mark m.CloseBracket ∷ [])) j j4 a.takes
              (takes_append j (mark m.Colon ∷ []) (bound_spelling hi.0 ++ mark m.CloseBracket ∷ []) j2 j4 colon
              (takes_append j2 (bound_spelling hi.0) (mark m.CloseBracket ∷ []) j3 j4 z.takes close)),
        );
        is = (a.is, z.is);
        height = omega (arith, a.height, z.height);
        low = omega (arith, a.low, z.low);
      })))))

  range_by_sound : (q : Option Lexeme) (i : List Tok) (y : WithHeight RangeTree × List Tok) → lexeme_at i ≡ q → R (range_by q) i ≡ Ok y → ReadAs range_spelling IsRange range_height r i y.0 y.1
  range_by_sound (Some (lexeme.Mark m.OpenBracket)) [] y e h = absurd (cc)
  range_by_sound (Some (lexeme.Mark m.OpenBracket)) (t ∷ i) y e h = let is : t.lexeme ≡ lexeme.Mark m.OpenBracket = cc in span_on_sound t i y is h
  range_by_sound _ i y e h = bind_ok (sub 1 i) _ y h (λ x j e2 g.
      let s = one_sound.at i x j e2 in
      yields (ReadAs range_spelling IsRange range_height r i) _ _ y g (record { takes = s.takes; is = s.is; height = s.height; low = s.low }))

  pub range_sound : IsSound range_spelling IsRange range_height r (R range)
  unfolding range
  range_sound = record { at = λ i x j h. range_by_sound (lexeme_at i) i (x, j) refl h }

  pub ranges_sound : IsSound (listed range_spelling) (OneOrMore IsRange) (greatest range_height) r (R ranges)
  unfolding ranges
  ranges_sound = listing_sound most r sub range range_spelling IsRange range_height range_sound

  -- ---- paths and their selects

  pub known_base : (i : List Tok) (p : ExprTree × NameKind) (j : List Tok) → KnownPath i p j → IsBase r (number_at i) i (p.0, 1) j
  known_base i p j d = record {
    takes = subst (λ z. FitEach i (expr_spelling z) j) (sym d.is) (known_spells d.at d.scope d.names p.1 i j d.takes);
    is = subst IsExpr (sym d.is) d.good;
    selects = ap is_selectable d.is;
    height = sym (ap expr_height d.is);
    low = omega arith;
    begins = d.begins ∙ sym (ap start d.is);
  }

  pub path_in_sound : (i : List Tok) (y : WithHeight ExprTree × List Tok) → R path_in i ≡ Ok y → IsBase r (number_at i) i y.0 y.1
  unfolding path_in
  path_in_sound i y h = bind_ok (R known_path i) _ y h (λ p j e g.
      yields (IsBase r (number_at i) i) _ _ y g (known_base i p j (known_path_sound most r sub i p j e)))

  -- `[` and what stands behind it
  select_on_sound : (at : ℕ) (i0 : List Tok) (base : WithHeight ExprTree) (i : List Tok) (y : WithHeight ExprTree × List Tok) → IsBase r at i0 base i → lexeme_at i ≡ Some (lexeme.Mark m.OpenBracket) → R (select_on at base) i ≡ Ok y → IsBase r at i0 y.0 y.1
  unfolding select_on
  select_on_sound at i0 base i y b k h = bind_ok (entered r base.1 i) _ y h (λ n0 j e g. let n = entered_ok r base.1 i n0 j e in bind_ok (sub 1 j) _ y g (λ x j2 e2 g2.
      let s = one_sound.at j x j2 e2 in
      let brace : Some n.t.lexeme ≡ Some (lexeme.Mark m.OpenBracket) = first_of n.t j i _ n.is k in
      let is : n.t.lexeme ≡ lexeme.Mark m.OpenBracket = cc in
      let before : FitEach i0 (expr_spelling base.0) (n.t ∷ j) = subst (λ z. FitEach i0 (expr_spelling base.0) z) n.is b.takes in
      led_ok most r sub (f.Mark m.Colon) _ _ j2 y g2
      (λ j3 colon g3. bind_ok (sub 1 j3) _ y g3 (λ z j4 e4 g4. bind_ok (R (expect (f.Mark m.CloseBracket)) j4) _ y g4 (λ u j5 e5 g5.
      let s2 = one_sound.at j3 z j4 e4 in
      yields (IsBase r at i0) _ _ y g5 (record {
        takes = takes_append i0 (expr_spelling base.0) (mark m.OpenBracket ∷ (expr_spelling x.0 ++ mark m.Colon ∷ (expr_spelling z.0 ++ mark m.CloseBracket ∷ []))) (n.t ∷ j) j5 before (
          is,
          takes_append j (expr_spelling x.0) (mark m.Colon ∷ (expr_spelling z.0 ++ mark m.CloseBracket ∷ [])) j2 j5 s.takes
              (takes_append j2 (mark m.Colon ∷ []) (expr_spelling z.0 ++ mark m.CloseBracket ∷ []) j3 j5 colon
              (takes_append j3 (expr_spelling z.0) (mark m.CloseBracket ∷ []) j4 j5 s2.takes (expect_ok most r sub (f.Mark m.CloseBracket) j4 (u, j5) e5))),
        );
        is = (b.begins, b.is, s.is, s2.is, b.selects);
        selects = refl;
        height = omega (arith, b.height, s.height, s2.height);
        low = omega (arith, n.fits, s.low, s2.low);
        begins = refl;
      }))))
      (λ _ g3. bind_ok (R (expect (f.Mark m.CloseBracket)) j2) _ y g3 (λ u j5 e5 g5.
      yields (IsBase r at i0) _ _ y g5 (record {
        takes = takes_append i0 (expr_spelling base.0) (mark m.OpenBracket ∷ (expr_spelling x.0 ++ mark m.CloseBracket ∷ [])) (n.t ∷ j) j5 before
            (is, takes_append j (expr_spelling x.0) (mark m.CloseBracket ∷ []) j2 j5 s.takes (expect_ok most r sub (f.Mark m.CloseBracket) j2 (u, j5) e5));
        is = (b.begins, b.is, s.is, b.selects);
        selects = refl;
        height = omega (arith, b.height, s.height);
        low = omega (arith, n.fits, s.low);
        begins = refl;
      })))))

  base_read : (at : ℕ) (i0 : List Tok) (x : WithHeight ExprTree) (i : List Tok) → IsBase r at i0 x i → ReadPrimary r i0 x i
  base_read at i0 x i b = record { takes = b.takes; is = (b.is, selectable_level x.0 b.selects); height = b.height; low = b.low }

  parens_sound : (at : ℕ) (i0 : List Tok) (base : WithHeight ExprTree) (t : Tok) (i : List Tok) (y : WithHeight ExprTree × List Tok) → IsBase r at i0 base (t ∷ i) → t.lexeme ≡ lexeme.Mark m.OpenParen → R (parens_on base) (t ∷ i) ≡ Ok y → ReadPrimary r i0 y.0 y.1
  unfolding parens_on
  parens_sound at i0 base t i y b k h = bind_ok (R (expect (f.Mark m.CloseParen)) i) _ y h (λ u j e g.
      yields (ReadPrimary r i0) _ _ y g (record {
        takes = subst (λ es. FitEach i0 es j) (sym (with_parens_spelling base.0 b.selects)) (takes_append i0 (expr_spelling base.0) parens (t ∷ i) j b.takes (k, expect_ok most r sub (f.Mark m.CloseParen) i (u, j) e));
        is = (with_parens_is base.0 b.is, with_parens_level base.0 ∙ selectable_level base.0 b.selects);
        height = b.height ∙ sym (with_parens_height base.0);
        low = b.low;
      }))

  suffix_by_ok : {G : Type 0} (at : ℕ) (i0 : List Tok) (base : WithHeight ExprTree) (q : Option Lexeme) (i : List Tok) (v : Turn (WithHeight ExprTree) (WithHeight ExprTree)) (j : List Tok) → IsBase r at i0 base i → lexeme_at i ≡ q → R (suffix_by at base q) i ≡ Ok (v, j)
      → ((x : WithHeight ExprTree) → v ≡ go x → IsBase r at i0 x j → G) → ((x : WithHeight ExprTree) → v ≡ done x → ReadPrimary r i0 x j → G) → G
  suffix_by_ok at i0 base (Some (lexeme.Mark m.OpenBracket)) i v j b e h g d = bind_ok (R (select_on at base) i) _ (v, j) h (λ x j2 e2 g2.
      let both : ◌≡◌ {A = Turn (WithHeight ExprTree) (WithHeight ExprTree) × List Tok} (go x, j2) (v, j) = cc in
      g x (sym (ap (λ z. z.0) both)) (subst (λ z. IsBase r at i0 x z) (ap (λ z. z.1) both) (select_on_sound at i0 base i (x, j2) b e e2)))
  suffix_by_ok at i0 base (Some (lexeme.Mark m.OpenParen)) [] v j b e h g d = absurd (cc)
  suffix_by_ok at i0 base (Some (lexeme.Mark m.OpenParen)) (t ∷ i) v j b e h g d = bind_ok (R (parens_on base) (t ∷ i)) _ (v, j) h (λ x j2 e2 g2.
      let is : t.lexeme ≡ lexeme.Mark m.OpenParen = cc in
      let both : ◌≡◌ {A = Turn (WithHeight ExprTree) (WithHeight ExprTree) × List Tok} (done x, j2) (v, j) = cc in
      d x (sym (ap (λ z. z.0) both)) (subst (λ z. ReadPrimary r i0 x z) (ap (λ z. z.1) both) (parens_sound at i0 base t i (x, j2) b is e2)))
  suffix_by_ok at i0 base _ i v j b e h g d =
      let both : ◌≡◌ {A = Turn (WithHeight ExprTree) (WithHeight ExprTree) × List Tok} (done base, i) (v, j) = cc in
      d base (sym (ap (λ z. z.0) both)) (subst (λ z. ReadPrimary r i0 base z) (ap (λ z. z.1) both) (base_read at i0 base i b))

  suffix_step_ok : {G : Type 0} (at : ℕ) (i0 : List Tok) (base : WithHeight ExprTree) (i : List Tok) (v : Turn (WithHeight ExprTree) (WithHeight ExprTree)) (j : List Tok) → IsBase r at i0 base i → R (suffix_step at base) i ≡ Ok (v, j)
      → ((x : WithHeight ExprTree) → v ≡ go x → IsBase r at i0 x j → G) → ((x : WithHeight ExprTree) → v ≡ done x → ReadPrimary r i0 x j → G) → G
  unfolding suffix_step
  suffix_step_ok at i0 base i v j b h g d = suffix_by_ok at i0 base (lexeme_at i) i v j b refl h g d

  suffix_turns_sound : (at n : ℕ) (i0 : List Tok) (base : WithHeight ExprTree) (i : List Tok) (y : WithHeight ExprTree × List Tok) → IsBase r at i0 base i → turns n (λ s. R (suffix_step at s)) base i ≡ Ok y → ReadPrimary r i0 y.0 y.1
  suffix_turns_sound at zero i0 base i y b h = absurd (cc)
  suffix_turns_sound at (suc n) i0 base i y b h = turn_ok (R (suffix_step at base) i) (turns n (λ s. R (suffix_step at s))) y h
      (λ s2 j e g. suffix_step_ok at i0 base i (go s2) j b e
      (λ x is b2. let same : s2 ≡ x = cc in suffix_turns_sound at n i0 x j y b2 (subst (λ z. turns n (λ s. R (suffix_step at s)) z j ≡ Ok y) same g))
      (λ x is b2. absurd (cc)))
      (λ a j e g. suffix_step_ok at i0 base i (done a) j b e
      (λ x is b2. absurd (cc))
      (λ x is b2. let same : a ≡ x = cc in yields (ReadPrimary r i0) a j y g (rw same b2)))

  pub with_suffixes_sound : (at : ℕ) (i0 : List Tok) (base : WithHeight ExprTree) (i : List Tok) (y : WithHeight ExprTree × List Tok) → IsBase r at i0 base i → R (with_suffixes at base) i ≡ Ok y → ReadPrimary r i0 y.0 y.1
  unfolding with_suffixes
  with_suffixes_sound at i0 base i y b h = suffix_turns_sound at most i0 base i y b h

  -- ---- array reductions

  -- the tokens from `with` on, behind an array, the name of a reduction, and its argument
  whole_takes : (array : ExprTree) (op : Fold) (item : IteratorArgument) (body : ExprTree) (i0 mid mid2 j : List Tok) → FitEach i0 (expr_spelling array ++ last_name (fold_name op) []) mid → FitEach mid (argument_spelling item) mid2 → FitEach mid2 (with_rest body) j
      → FitEach i0 (expr_spelling array ++ reduce_rest op item body) j
  whole_takes array op item body i0 mid mid2 j a b c =
      let p = takes_parts i0 (expr_spelling array) (last_name (fold_name op) []) mid a in
      takes_append i0 (expr_spelling array) (reduce_rest op item body) p.0 j p.1 (takes_append p.0 (last_name (fold_name op) []) (body_rest item body) mid j p.2 (takes_append mid (argument_spelling item) (with_rest body) mid2 j b c))

  body_on_sound : (at : ℕ) (p : ExprTree) (op : Fold) (item : IteratorArgument) (i0 mid i : List Tok) (y : WithHeight ExprTree × List Tok) → IsFoldPath at i0 p op mid → FitEach mid (argument_spelling item) i → lexeme_at i ≡ Some (lexeme.Word w.With)
      → R (body_on at (owner p) op item) i ≡ Ok y → ReadPrimary r i0 y.0 y.1
  unfolding body_on
  body_on_sound at p op item i0 mid i y d a k h = bind_ok (entered r 1 i) _ y h (λ n0 j0 e0 g0. let n = entered_ok r 1 i n0 j0 e0 in bind_ok (R (expect (f.Mark m.OpenParen)) j0) _ y g0 (λ u j1 e1 g1.
      bind_ok (sub 1 j1) _ y g1 (λ x j2 e2 g2. bind_ok (R (expect (f.Mark m.CloseParen)) j2) _ y g2 (λ u2 j3 e3 g3.
      let s = one_sound.at j1 x j2 e2 in
      let first : Some n.t.lexeme ≡ Some (lexeme.Word w.With) = first_of n.t j0 i _ n.is k in
      let is : n.t.lexeme ≡ lexeme.Word w.With = cc in
      let behind : FitEach (n.t ∷ j0) (with_rest x.0) j3 = (
        is,
        takes_append j0 (mark m.OpenParen ∷ []) (expr_spelling x.0 ++ mark m.CloseParen ∷ []) j1 j3 (expect_ok most r sub (f.Mark m.OpenParen) j0 (u, j1) e1)
            (takes_append j1 (expr_spelling x.0) (mark m.CloseParen ∷ []) j2 j3 s.takes (expect_ok most r sub (f.Mark m.CloseParen) j2 (u2, j3) e3)),
      ) in
      yields (ReadPrimary r i0) _ _ y g3 (record {
        takes = whole_takes (owner p) op item x.0 i0 mid i j3 d.takes a (subst (λ z. FitEach z (with_rest x.0) j3) (sym n.is) behind);
        is = ((d.begins, d.is, d.a_path, s.is), refl);
        height = omega (arith, d.height, s.height);
        low = omega (arith, s.low, n.fits);
      })))))

  argument_on_sound : (at : ℕ) (p : ExprTree) (op : Fold) (i0 : List Tok) (t : Tok) (i : List Tok) (k : NameKind) (y : WithHeight ExprTree × List Tok) → IsFoldPath at i0 p op (t ∷ i) → t.lexeme ≡ lexeme.Mark m.OpenParen → lexeme_at i ≡ Some (lexeme.Name k)
      → R (argument_on at p op) i ≡ Ok y → ReadPrimary r i0 y.0 y.1
  unfolding argument_on
  argument_on_sound at p op i0 t i k y d paren_is name h = bind_ok (entered r 1 i) _ y h (λ n0 j0 e0 g0. let n = entered_ok r 1 i n0 j0 e0 in bind_ok (R (expect (f.Mark m.CloseParen)) j0) _ y g0 (λ u0 j1 e1 g1.
      bind_ok (R (expect (f.Word w.With)) j1) _ y g1 (λ u1 j2 e2 g2. bind_ok (R (expect (f.Mark m.OpenParen)) j2) _ y g2 (λ u2 j3 e3 g3.
      bind_ok (sub 1 j3) _ y g3 (λ x j4 e4 g4. bind_ok (R (expect (f.Mark m.CloseParen)) j4) _ y g4 (λ u3 j5 e5 g5.
      let s = one_sound.at j3 x j4 e4 in
      let first : Some n.t.lexeme ≡ Some (lexeme.Name k) = first_of n.t j0 i _ n.is name in
      let is : n.t.lexeme ≡ lexeme.Name k = cc in
      let argument : FitEach (t ∷ (n.t ∷ j0)) (argument_spelling (iterator.Named n0)) j1 = (paren_is, ((sym n.number, record { kind = k; is = is }), expect_ok most r sub (f.Mark m.CloseParen) j0 (u0, j1) e1)) in
      let body : FitEach j1 (with_rest x.0) j5 = takes_append j1 (word w.With ∷ []) (mark m.OpenParen ∷ (expr_spelling x.0 ++ mark m.CloseParen ∷ [])) j2 j5 (expect_ok most r sub (f.Word w.With) j1 (u1, j2) e2)
      (takes_append j2 (mark m.OpenParen ∷ []) (expr_spelling x.0 ++ mark m.CloseParen ∷ []) j3 j5 (expect_ok most r sub (f.Mark m.OpenParen) j2 (u2, j3) e3)
      (takes_append j3 (expr_spelling x.0) (mark m.CloseParen ∷ []) j4 j5 s.takes (expect_ok most r sub (f.Mark m.CloseParen) j4 (u3, j5) e5))) in
      yields (ReadPrimary r i0) _ _ y g5 (record {
        takes = whole_takes (owner p) op (iterator.Named n0) x.0 i0 (t ∷ i) j1 j5 d.takes (subst (λ z. FitEach (t ∷ z) (argument_spelling (iterator.Named n0)) j1) (sym n.is) argument) body;
        is = ((d.begins, d.is, d.a_path, s.is), refl);
        height = omega (arith, d.height, s.height);
        low = omega (arith, s.low, n.fits);
      })))))))

  -- behind `()`
  called_by_sound : (at : ℕ) (p : ExprTree) (op : Fold) (i0 : List Tok) (t : Tok) (mid : List Tok) (q : Option Lexeme) (i : List Tok) (y : WithHeight ExprTree × List Tok) → IsBase r at i0 (p, 1) (t ∷ mid) → IsFoldPath at i0 p op (t ∷ mid) → t.lexeme ≡ lexeme.Mark m.OpenParen
      → FitEach mid (mark m.CloseParen ∷ []) i → lexeme_at i ≡ q → R (called_by at p op q) i ≡ Ok y → ReadPrimary r i0 y.0 y.1
  called_by_sound at p op i0 t mid (Some (lexeme.Word w.With)) i y b d paren_is close k h = body_on_sound at p op iterator.Empty i0 (t ∷ mid) i y d (paren_is, close) k h
  called_by_sound at p op i0 t mid _ i y b d paren_is close k h = yields (ReadPrimary r i0) (with_parens p, 1) i y h (called p i0 t mid i b paren_is close)
    where
      called : (p : ExprTree) (i0 : List Tok) (t : Tok) (mid i : List Tok) → IsBase r at i0 (p, 1) (t ∷ mid) → t.lexeme ≡ lexeme.Mark m.OpenParen → FitEach mid (mark m.CloseParen ∷ []) i → ReadPrimary r i0 (with_parens p, 1) i
      called p i0 t mid i b paren_is close = record {
        takes = subst (λ es. FitEach i0 es i) (sym (with_parens_spelling p b.selects)) (takes_append i0 (expr_spelling p) parens (t ∷ mid) i b.takes (paren_is, close));
        is = (with_parens_is p b.is, with_parens_level p ∙ selectable_level p b.selects);
        height = b.height ∙ sym (with_parens_height p);
        low = b.low;
      }

  argument_by_sound : (at : ℕ) (p : ExprTree) (op : Fold) (i0 : List Tok) (t : Tok) (q : Option Lexeme) (i : List Tok) (y : WithHeight ExprTree × List Tok) → IsBase r at i0 (p, 1) (t ∷ i) → IsFoldPath at i0 p op (t ∷ i) → t.lexeme ≡ lexeme.Mark m.OpenParen
      → lexeme_at i ≡ q → R (argument_by at p op q) i ≡ Ok y → ReadPrimary r i0 y.0 y.1
  argument_by_sound at p op i0 t (Some (lexeme.Name k)) i y b d paren_is e h = argument_on_sound at p op i0 t i k y d paren_is e h
  argument_by_sound at p op i0 t _ i y b d paren_is e h = bind_ok (R (expect (f.Mark m.CloseParen)) i) _ y h (λ u j e2 g. called_by_sound at p op i0 t i (lexeme_at j) j y b d paren_is (expect_ok most r sub (f.Mark m.CloseParen) i (u, j) e2) refl g)

  fold_by_sound : (at : ℕ) (p : ExprTree) (op : Fold) (i0 : List Tok) (q : Option Lexeme) (i : List Tok) (y : WithHeight ExprTree × List Tok) → IsBase r at i0 (p, 1) i → IsFoldPath at i0 p op i → lexeme_at i ≡ q → R (fold_by at p op q) i ≡ Ok y → ReadPrimary r i0 y.0 y.1
  fold_by_sound at p op i0 (Some (lexeme.Word w.With)) i y b d e h = body_on_sound at p op iterator.Absent i0 i i y d refl e h
  fold_by_sound at p op i0 (Some (lexeme.Mark m.OpenParen)) [] y b d e h = absurd (cc)
  fold_by_sound at p op i0 (Some (lexeme.Mark m.OpenParen)) (t ∷ i) y b d e h = let is : t.lexeme ≡ lexeme.Mark m.OpenParen = cc in argument_by_sound at p op i0 t (lexeme_at i) i y b d is refl h
  fold_by_sound at p op i0 _ i y b d e h = with_suffixes_sound at i0 (p, 1) i y b h

  -- what stands behind a path that was read from i0
  pub path_rest_sound : (i0 : List Tok) (p : ExprTree × NameKind) (i : List Tok) (y : WithHeight ExprTree × List Tok) → KnownPath i0 p i → R (path_rest (number_at i0) p) i ≡ Ok y → ReadPrimary r i0 y.0 y.1
  unfolding path_rest
  path_rest_sound i0 p i y d h = by (path_fold p) refl h
    where
      base : IsBase r (number_at i0) i0 (p.0, 1) i
      base = known_base i0 p i d

      by : (o : Option Fold) → path_fold p ≡ o → R (path_on_by (number_at i0) p.0 o) i ≡ Ok y → ReadPrimary r i0 y.0 y.1
      by None e g = with_suffixes_sound (number_at i0) i0 (p.0, 1) i y base g
      by (Some op) e g =
          let at = d.begins in
          let fold_at : IsFoldPath d.at i0 (path d.at d.scope d.names false) op i = fold_path d.at d.scope d.names p.1 op i0 i d.good d.takes (ap (λ z. path_fold (z, p.1)) (sym d.is) ∙ e) in
          let same : IsFoldPath (number_at i0) i0 p.0 op i = subst (λ z. IsFoldPath (number_at i0) i0 z op i) (sym d.is) (subst (λ v. IsFoldPath v i0 (path d.at d.scope d.names false) op i) (sym at) fold_at) in
          fold_by_sound (number_at i0) p.0 op i0 (lexeme_at i) i y base same refl g

  path_expr_sound : (i : List Tok) (y : WithHeight ExprTree × List Tok) → R path_expr i ≡ Ok y → ReadPrimary r i y.0 y.1
  unfolding path_expr
  path_expr_sound i y h = bind_ok (R known_path i) _ y h (λ p j e g. path_rest_sound i p j y (known_path_sound most r sub i p j e) g)

  -- ---- the other primaries

  literal_sound : (v width : ℕ) (signed : Bool) (i : List Tok) (y : WithHeight ExprTree × List Tok) → lexeme_at i ≡ Some (lexeme.Literal v width signed) → R (literal v width signed) i ≡ Ok y → ReadPrimary r i y.0 y.1
  unfolding literal
  literal_sound v width signed [] y e h = absurd (cc)
  literal_sound v width signed (t ∷ i) y e h = let is : t.lexeme ≡ lexeme.Literal v width signed = cc in
      yields (ReadPrimary r (t ∷ i)) _ _ y h (record { takes = ((refl, is), refl); is = (tt, refl); height = refl; low = omega arith })

  unary_expr_sound : (op : UnOp) (i : List Tok) (y : WithHeight ExprTree × List Tok) → lexeme_at i ≡ Some (lexeme.Mark (unary_mark op)) → R (unary_expr op) i ≡ Ok y → ReadPrimary r i y.0 y.1
  unfolding unary_expr
  unary_expr_sound op i y k h = bind_ok (entered r 1 i) _ y h (λ at j0 e0 g0. let n = entered_ok r 1 i at j0 e0 in bind_ok (sub unary_level j0) _ y g0 (λ x j e g.
      let s = (ok unary_level (omega arith)).at j0 x j e in
      let first : Some n.t.lexeme ≡ Some (lexeme.Mark (unary_mark op)) = first_of n.t j0 i _ n.is k in
      let is : n.t.lexeme ≡ lexeme.Mark (unary_mark op) = cc in
      yields (ReadPrimary r i) _ _ y g (rw n.is (record {
        takes = ((sym n.number, is), s.takes);
        is = (s.is, refl);
        height = ap (λ v. v + 1) s.height;
        low = omega (arith, s.low);
      }))))

  paren_expr_sound : (i : List Tok) (y : WithHeight ExprTree × List Tok) → lexeme_at i ≡ Some (lexeme.Mark m.OpenParen) → R paren_expr i ≡ Ok y → ReadPrimary r i y.0 y.1
  unfolding paren_expr
  paren_expr_sound i y k h = bind_ok (entered r 1 i) _ y h (λ at j0 e0 g0. let n = entered_ok r 1 i at j0 e0 in bind_ok (sub 1 j0) _ y g0 (λ x j e g. bind_ok (R (expect (f.Mark m.CloseParen)) j) _ y g (λ u j2 e2 g2.
      let s = one_sound.at j0 x j e in
      let first : Some n.t.lexeme ≡ Some (lexeme.Mark m.OpenParen) = first_of n.t j0 i _ n.is k in
      let is : n.t.lexeme ≡ lexeme.Mark m.OpenParen = cc in
      yields (ReadPrimary r i) _ _ y g2 (rw n.is (record {
        takes = ((sym n.number, is), takes_append j0 (expr_spelling x.0) (mark m.CloseParen ∷ []) j j2 s.takes (expect_ok most r sub (f.Mark m.CloseParen) j (u, j2) e2));
        is = (s.is, refl);
        height = ap (λ v. v + 1) s.height;
        low = omega (arith, s.low);
      })))))

  signed_is : (s : SystemName) → system_name (is_signed s) ≡ s
  signed_is system.Signed = refl
  signed_is system.Unsigned = refl

  sign_expr_sound : (s : SystemName) (i : List Tok) (y : WithHeight ExprTree × List Tok) → lexeme_at i ≡ Some (lexeme.System s) → R (sign_expr s) i ≡ Ok y → ReadPrimary r i y.0 y.1
  unfolding sign_expr
  sign_expr_sound s i y k h = bind_ok (entered r 1 i) _ y h (λ at j0 e0 g0. let n = entered_ok r 1 i at j0 e0 in bind_ok (R (expect (f.Mark m.OpenParen)) j0) _ y g0 (λ u j1 e1 g1.
      bind_ok (sub 1 j1) _ y g1 (λ x j e g. bind_ok (R (expect (f.Mark m.CloseParen)) j) _ y g (λ u2 j2 e2 g2.
      let d = one_sound.at j1 x j e in
      let first : Some n.t.lexeme ≡ Some (lexeme.System s) = first_of n.t j0 i _ n.is k in
      let is : n.t.lexeme ≡ lexeme.System s = cc in
      yields (ReadPrimary r i) _ _ y g2 (rw n.is (record {
        takes = (
          (sym n.number, is ∙ ap lexeme.System (sym (signed_is s))),
          takes_append j0 (mark m.OpenParen ∷ []) (expr_spelling x.0 ++ mark m.CloseParen ∷ []) j1 j2 (expect_ok most r sub (f.Mark m.OpenParen) j0 (u, j1) e1)
              (takes_append j1 (expr_spelling x.0) (mark m.CloseParen ∷ []) j j2 d.takes (expect_ok most r sub (f.Mark m.CloseParen) j (u2, j2) e2)),
        );
        is = (d.is, refl);
        height = ap (λ v. v + 1) d.height;
        low = omega (arith, d.low);
      }))))))

  -- `{`, at the token t, and a first expression x, before what is read at j
  copies_on_sound : (t : Tok) (i : List Tok) (x : WithHeight ExprTree) (j : List Tok) (at : ℕ) (y : WithHeight ExprTree × List Tok) → t.lexeme ≡ lexeme.Mark m.OpenBrace → at ≡ t.at → ReadAs expr_spelling IsExpr expr_height r i x j
      → (j2 : List Tok) → FitEach j (mark m.OpenBrace ∷ []) j2 → R (copies_on at x) j2 ≡ Ok y → ReadPrimary r (t ∷ i) y.0 y.1
  unfolding copies_on
  copies_on_sound t i x j at y k num s j2 brace h = bind_ok (R exprs j2) _ y h (λ xs j3 e g. bind_ok (R (expect (f.Mark m.CloseBrace)) j3) _ y g (λ u j4 e2 g2. bind_ok (R (expect (f.Mark m.CloseBrace)) j4) _ y g2 (λ u2 j5 e3 g3.
      let d = exprs_sound.at j2 xs j3 e in
      let takes : FitEach j2 (exprs_spelling (exprs_of xs.0)) j3 = subst (λ es. FitEach j2 es j3) (sym (exprs_spelling_is xs.0)) d.takes in
      let high : exprs_height (exprs_of xs.0) ≡ greatest expr_height xs.0 = exprs_height_is xs.0 in
      yields (ReadPrimary r (t ∷ i)) _ _ y g3 (record {
        takes = (
          (sym num, k),
          takes_append i (expr_spelling x.0) (mark m.OpenBrace ∷ (exprs_spelling (exprs_of xs.0) ++ mark m.CloseBrace ∷ (mark m.CloseBrace ∷ []))) j j5 s.takes
              (takes_append j (mark m.OpenBrace ∷ []) (exprs_spelling (exprs_of xs.0) ++ mark m.CloseBrace ∷ (mark m.CloseBrace ∷ [])) j2 j5 brace
              (takes_append j2 (exprs_spelling (exprs_of xs.0)) (mark m.CloseBrace ∷ (mark m.CloseBrace ∷ [])) j3 j5 takes
              (takes_append j3 (mark m.CloseBrace ∷ []) (mark m.CloseBrace ∷ []) j4 j5 (expect_ok most r sub (f.Mark m.CloseBrace) j3 (u, j4) e2) (expect_ok most r sub (f.Mark m.CloseBrace) j4 (u2, j5) e3)))),
        );
        is = ((s.is, are_exprs xs.0 d.is), refl);
        height = omega (arith, s.height, d.height, high);
        low = omega (arith, s.low, d.low);
      }))))

  join_on_sound : (t : Tok) (i : List Tok) (xs : WithHeight Exprs) (j : List Tok) (at : ℕ) (y : WithHeight ExprTree × List Tok) → t.lexeme ≡ lexeme.Mark m.OpenBrace → at ≡ t.at → ReadAs (listed expr_spelling) (OneOrMore IsExpr) (greatest expr_height) r i xs j
      → R (join_on at xs) j ≡ Ok y → ReadPrimary r (t ∷ i) y.0 y.1
  unfolding join_on
  join_on_sound t i xs j at y k num d h = bind_ok (R (expect (f.Mark m.CloseBrace)) j) _ y h (λ u j2 e g.
      let takes : FitEach i (exprs_spelling (exprs_of xs.0)) j = subst (λ es. FitEach i es j) (sym (exprs_spelling_is xs.0)) d.takes in
      let high : exprs_height (exprs_of xs.0) ≡ greatest expr_height xs.0 = exprs_height_is xs.0 in
      yields (ReadPrimary r (t ∷ i)) _ _ y g (record {
        takes = ((sym num, k), takes_append i (exprs_spelling (exprs_of xs.0)) (mark m.CloseBrace ∷ []) j j2 takes (expect_ok most r sub (f.Mark m.CloseBrace) j (u, j2) e));
        is = (are_exprs xs.0 d.is, refl);
        height = omega (arith, d.height, high);
        low = omega (arith, d.low);
      }))

  single : (i : List Tok) (x : WithHeight ExprTree) (j : List Tok) → ReadAs expr_spelling IsExpr expr_height r i x j → ReadAs (listed expr_spelling) (OneOrMore IsExpr) (greatest expr_height) r i (x.0 ∷ [], x.1) j
  single i x j s = record { takes = takes_append i (expr_spelling x.0) [] j j s.takes refl; is = (s.is, tt); height = omega (arith, s.height); low = s.low }

  several : (i : List Tok) (x : WithHeight ExprTree) (j j2 j3 : List Tok) (xs : WithHeight Exprs) → ReadAs expr_spelling IsExpr expr_height r i x j → FitEach j (mark m.Comma ∷ []) j2 → Behind (listed expr_spelling) (OneOrMore IsExpr) expr_height r (x.0 ∷ [], x.1) j2 xs j3
      → ReadAs (listed expr_spelling) (OneOrMore IsExpr) (greatest expr_height) r i xs j3
  several i x j j2 j3 xs s eaten d = let all = d.all in record {
    takes = subst (λ z. FitEach i (listed expr_spelling z) j3) (sym all) (by d.more d.takes d.are);
    is = subst (OneOrMore IsExpr) (sym all) (s.is, each d.more d.are);
    height = omega (arith, d.height, s.height, ap (greatest expr_height) all);
    low = d.low s.low;
  }
    where
      by : (more : Exprs) → FitEach j2 (listed expr_spelling more) j3 → OneOrMore IsExpr more → FitEach i (listed expr_spelling (x.0 ∷ more)) j3
      by [] t o = absurd o
      by (z ∷ more) t o = takes_append i (expr_spelling x.0) (mark m.Comma ∷ listed expr_spelling (z ∷ more)) j j3 s.takes (takes_append j (mark m.Comma ∷ []) (listed expr_spelling (z ∷ more)) j2 j3 eaten t)

      each : (more : Exprs) → OneOrMore IsExpr more → Each IsExpr more
      each [] o = absurd o
      each (z ∷ more) o = o

  brace_expr_sound : (i : List Tok) (y : WithHeight ExprTree × List Tok) → lexeme_at i ≡ Some (lexeme.Mark m.OpenBrace) → R brace_expr i ≡ Ok y → ReadPrimary r i y.0 y.1
  unfolding brace_expr
  brace_expr_sound i y k h = bind_ok (entered r 1 i) _ y h (λ at j0 e0 g0. let n = entered_ok r 1 i at j0 e0 in bind_ok (sub 1 j0) _ y g0 (λ x j e g.
      let s = one_sound.at j0 x j e in
      let first : Some n.t.lexeme ≡ Some (lexeme.Mark m.OpenBrace) = first_of n.t j0 i _ n.is k in
      let is : n.t.lexeme ≡ lexeme.Mark m.OpenBrace = cc in
      let all : ReadPrimary r (n.t ∷ j0) y.0 y.1 = led_ok most r sub (f.Mark m.OpenBrace) _ _ j y g
      (λ j2 brace g2. copies_on_sound n.t j0 x j at y is n.number s j2 brace g2)
      (λ _ g2. led_ok most r sub (f.Mark m.Comma) _ _ j y g2
      (λ j2 eaten g3. bind_ok (R (listing_on (call 1) (x.0 ∷ [], x.1)) j2) _ y g3 (λ xs j3 e3 g4.
      join_on_sound n.t j0 xs j3 at y is n.number (several j0 x j j2 j3 xs s eaten (listing_on_sound most r sub (call 1) expr_spelling IsExpr expr_height r one_sound (x.0 ∷ [], x.1) j2 xs j3 e3)) g4))
      (λ _ g3. join_on_sound n.t j0 (x.0 ∷ [], x.1) j at y is n.number (single j0 x j s) g3)) in
      subst (λ z. ReadPrimary r z y.0 y.1) (sym n.is) all))

  unary_by_sound : (k : Mark) (op : Option UnOp) (i : List Tok) (y : WithHeight ExprTree × List Tok) → lexeme_at i ≡ Some (lexeme.Mark k) → unary_of k ≡ op → R (unary_by op) i ≡ Ok y → ReadPrimary r i y.0 y.1
  unary_by_sound k (Some op) i y e u h = unary_expr_sound op i y (e ∙ ap (λ z. Some (lexeme.Mark z)) (unary_back k op u)) h
  unary_by_sound k None i y e u h = absurd (cc)

  prefix_by_sound : (q : Option Lexeme) (i : List Tok) (y : WithHeight ExprTree × List Tok) → lexeme_at i ≡ q → R (prefix_by q) i ≡ Ok y → ReadPrimary r i y.0 y.1
  prefix_by_sound (Some (lexeme.Literal v width signed)) i y e h = literal_sound v width signed i y e h
  prefix_by_sound (Some (lexeme.Name k)) i y e h = path_expr_sound i y h
  prefix_by_sound (Some (lexeme.Word w.Local)) i y e h = path_expr_sound i y h
  prefix_by_sound (Some (lexeme.Word w.This)) i y e h = path_expr_sound i y h
  prefix_by_sound (Some (lexeme.System s)) i y e h = sign_expr_sound s i y e h
  prefix_by_sound (Some (lexeme.Mark m.OpenParen)) i y e h = paren_expr_sound i y e h
  prefix_by_sound (Some (lexeme.Mark m.OpenBrace)) i y e h = brace_expr_sound i y e h
  prefix_by_sound (Some (lexeme.Mark k)) i y e h = unary_by_sound k (unary_of k) i y e refl h
  prefix_by_sound _ i y e h = absurd (cc)

  pub prefix_sound : (i : List Tok) (y : WithHeight ExprTree × List Tok) → R prefix i ≡ Ok y → ReadPrimary r i y.0 y.1
  unfolding prefix
  prefix_sound i y h = prefix_by_sound (lexeme_at i) i y refl h

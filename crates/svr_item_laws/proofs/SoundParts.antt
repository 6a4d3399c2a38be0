-- What is read as a `dist`, or behind the expression of an item, is in the grammar.
use Rattle.std.proofs.Common.{◌≡◌, ℕ, zero, suc, ◌+◌, ◌≤◌, max, Bool, List, [], ◌∷◌, ◌++◌, Option, Some, None, Ok, refl, sym, ◌∙◌, ap, subst, arith}
use Rattle.svr_token.specs.declared.Lexeme.{Lexeme}
use Rattle.svr_token.specs.declared.Lexeme.TheVariants as lexeme
use Rattle.svr_token.specs.declared.Word.TheVariants as w
use Rattle.svr_token.specs.declared.Mark.{Mark}
use Rattle.svr_token.specs.declared.Mark.TheVariants as m
use Rattle.svr_operator.specs.declared.Share.{Share}
use Rattle.svr_operator.specs.declared.Share.TheVariants as share
use Rattle.svr_operator.specs.declared.BinOp.TheVariants as b
use Rattle.svr_tree.specs.Tokens.{Tok, On, FitEach, mark, listed}
use Rattle.svr_tree.specs.Operators.{precedence, least_right}
use Rattle.svr_tree.specs.ExprTree.{ExprTree, binary}
use Rattle.svr_tree.specs.ExprGrammar.{expr_spelling, range_spelling, level, IsExpr, expr_height}
use Rattle.svr_tree.specs.ItemTree.{DistTree, ItemTree, plain}
use Rattle.svr_tree.specs.ItemGrammar.{weight_spelling, dist_item_spelling, dist_spelling, IsWeight, IsDistItem, IsDist, weight_height, dist_height}
use Rattle.svr_reader.specs.Outcomes.{Turn, go, done, Parser, lexeme_at, number_at, entered, turns}
use Rattle.svr_reader.specs.declared.fixed.Fixed.TheVariants as f
use Rattle.svr_reader.specs.Program.{run, expect}
use Rattle.svr_reader.specs.Lists.{WithHeight, listing}
use Rattle.svr_reader.proofs.Steps.{bind_ok, yields, turn_ok, takes_append, entered_ok, expect_ok}
use Rattle.svr_reader.proofs.Layers.{ReadAs, IsSound}
use Rattle.svr_reader.proofs.Lists.{listing_sound}
use Rattle.svr_expr.specs.declared.connective.Connective.{Connective}
use Rattle.svr_expr.specs.declared.connective.Connective.TheVariants as connective
use Rattle.svr_expr.specs.Connectives.{connective_of, connective_level}
use Rattle.svr_expr.specs.ExprRules.{binary_on, extend, climb_by, climb_step, climb, rest_of_operand, node, expr, a_range}
use Rattle.svr_expr_laws.proofs.Connectives.{binding_left, goes_ok}
use Rattle.svr_expr_laws.proofs.Trees.{begins}
use Rattle.svr_expr_laws.proofs.SoundParts.{IsAt, first_of}
use Rattle.svr_expr_laws.proofs.Sound.{climb_step_ok, expr_sound, a_range_sound, connectives_sound}
use Rattle.svr_item.specs.ItemRules.{Part, Ans, Rule, weight_of, weight_by, weight, dist_item, dist_on, dist_by, dist, plain_on, part}
use Rattle.svr_item_laws.proofs.Trees.{dist_item_height, dist_height_is}

-- the mark of a weight
abbrev pub weight_mark : Share → Mark
weight_mark share.Each = m.ColonEqual
weight_mark share.Whole = m.ColonSlash

pub weight_spells : (s : Share) (e : ExprTree) → weight_spelling (Some (s, e)) ≡ mark (weight_mark s) ∷ expr_spelling e
weight_spells share.Each e = refl
weight_spells share.Whole e = refl

-- the word that leads an item
pub entered_takes : (r h : ℕ) (i : List Tok) (at : ℕ) (j : List Tok) (q : Lexeme) → entered r h i ≡ Ok (at, j) → lexeme_at i ≡ Some q → FitEach i (On at q ∷ []) j × (h ≤ r)
entered_takes r h i at j q e k =
    let n = entered_ok r h i at j e in
    let first : Some n.t.lexeme ≡ Some q = first_of n.t j i _ n.is k in
    let is : n.t.lexeme ≡ q = cc in
    (subst (λ z. FitEach z (On at q ∷ []) j) (sym n.is) ((sym n.number, is), refl), n.fits)

-- ---- `<->` behind a first operand

-- what `<->` extends an operand to, and nothing more
pub record Equated (x : ExprTree) (y : ExprTree) : Type 0 where
  pub at : ℕ
  pub right : ExprTree
  pub is : y ≡ binary at b.Equivalent x right

equated_once : (most r at : ℕ) (x : WithHeight ExprTree) (i : List Tok) (v : Turn (WithHeight ExprTree × ℕ) (WithHeight ExprTree)) (j : List Tok) → lexeme_at i ≡ Some (lexeme.Mark m.DoubleArrow) → run most r (expr most r) (climb_step at 1 (x, 14)) i ≡ Ok (v, j)
    → (y : WithHeight ExprTree) × (v ≡ go (y, 1)) × Equated x.0 y.0
unfolding climb_step extend binary_on
equated_once most r at x i v j k h =
    let h2 : run most r (expr most r) (climb_by at 1 (x, 14) (Some (connective.Binary b.Equivalent))) i ≡ Ok (v, j) = ap (λ q. run most r (expr most r) (climb_by at 1 (x, 14) (connective_of q)) i) (sym k) ∙ h in
    bind_ok (run most r (expr most r) (extend at x (connective.Binary b.Equivalent)) i) _ (v, j) h2 (λ y j2 e g.
    bind_ok (entered r x.1 i) _ (y, j2) e (λ a j0 e0 g0. bind_ok (expr most r (least_right (precedence b.Equivalent)) j0) _ (y, j2) g0 (λ z j1 e1 g1.
    let first : ◌≡◌ {A = WithHeight ExprTree × List Tok} ((binary at b.Equivalent x.0 z.0, max x.1 z.1 + 1), j1) (y, j2) = cc in
    let both : ◌≡◌ {A = Turn (WithHeight ExprTree × ℕ) (WithHeight ExprTree) × List Tok} (go (y, 1), j2) (v, j) = cc in
    (y, sym (ap (λ p. p.0) both), record { at = at; right = z.0; is = sym (ap (λ p. p.0.0) first) }))))

-- nothing connectives behind it
equated_end : (most r at n : ℕ) (y : WithHeight ExprTree) (i : List Tok) (z : WithHeight ExprTree × List Tok) → turns n (λ s. run most r (expr most r) (climb_step at 1 s)) (y, 1) i ≡ Ok z → z.0 ≡ y
equated_end most r at zero y i z h = absurd (cc)
equated_end most r at (suc n) y i z h = turn_ok (run most r (expr most r) (climb_step at 1 (y, 1)) i) (turns n (λ s. run most r (expr most r) (climb_step at 1 s))) z h
    (λ s j e g. climb_step_ok most r (expr most r) (expr_sound most r) at 1 (y, 1) i (go s) j e
    (λ k longer q on _ _. let going = goes_ok 1 1 (connective_level k) on in absurd (omega (arith, going.0, going.1)))
    (λ _ is. absurd (cc)))
    (λ a j e g. climb_step_ok most r (expr most r) (expr_sound most r) at 1 (y, 1) i (done a) j e
    (λ k longer q on _ _. let going = goes_ok 1 1 (connective_level k) on in absurd (omega (arith, going.0, going.1)))
    (λ _ is. let same : a ≡ y = cc in yields (λ x _. x ≡ y) a j z g same))

equated_turns : (most r at n : ℕ) (x : WithHeight ExprTree) (i : List Tok) (z : WithHeight ExprTree × List Tok) → lexeme_at i ≡ Some (lexeme.Mark m.DoubleArrow) → turns n (λ s. run most r (expr most r) (climb_step at 1 s)) (x, 14) i ≡ Ok z → Equated x.0 z.0.0
equated_turns most r at zero x i z k h = absurd (cc)
equated_turns most r at (suc n) x i z k h = turn_ok (run most r (expr most r) (climb_step at 1 (x, 14)) i) (turns n (λ s. run most r (expr most r) (climb_step at 1 s))) z h
    (λ s j e g.
    let d = equated_once most r at x i (go s) j k e in
    let same : s ≡ (d.0, 1) = cc (d.1) in
    let last = equated_end most r at n d.0 j z (subst (λ v. turns n (λ s2. run most r (expr most r) (climb_step at 1 s2)) v j ≡ Ok z) same g) in
    subst (λ v. Equated x.0 v.0) (sym last) d.2)
    (λ a j e g. let d = equated_once most r at x i (done a) j k e in absurd (cc (d.1)))

equivalent_on_level : (k : Connective) → connective_of (Some (lexeme.Mark m.DoubleArrow)) ≡ Some k → connective_level k ≡ 1
equivalent_on_level k h = let same : connective.Binary b.Equivalent ≡ k = cc in ap connective_level (sym same)

-- an expression of `<->` whose left operand was read already
pub equivalent_on_read : (most r : ℕ) (i0 : List Tok) (x : WithHeight ExprTree) (i : List Tok) (y : WithHeight ExprTree) (j : List Tok) → ReadAs expr_spelling (IsAt 2) expr_height r i0 x i → lexeme_at i ≡ Some (lexeme.Mark m.DoubleArrow)
    → node most r (rest_of_operand (number_at i0) x) i ≡ Ok (y, j) → ReadAs expr_spelling IsExpr expr_height r i0 y j × Equated x.0 y.0
unfolding node climb
equivalent_on_read most zero i0 x i y j s k h = absurd (cc)
equivalent_on_read most (suc r) i0 x i y j s k h =
    let begin = (begins x.0 i0 i s.is.0 s.takes).at in
    let group = binding_left 1 (level x.0) s.is.1 in
    let d = connectives_sound most r (number_at i0) i0 x i y j
    (record { takes = s.takes; is = s.is.0; above = (let v = s.is.1 in omega (arith, v)); height = s.height; low = s.low; begins = begin })
    (λ l q. let one = equivalent_on_level l (ap connective_of (sym k) ∙ q) in omega (arith, one, group)) h in
    (record { takes = d.takes; is = d.is.0; height = d.height; low = d.low }, equated_turns most r (number_at i0) most x i (y, j) k h)

-- ---- `dist`

module _ (most r : ℕ) (below : Parser (WithHeight ItemTree)) where
  abbrev sub : (k : Part) → Parser (Ans k)
  sub = part most r below

  abbrev R : {A : Type 0} → Rule A → Parser A
  R p = run most r sub p

  abbrev Weighted : List Tok → WithHeight (Option (Share × ExprTree)) → List Tok → Type 0
  Weighted i x j = ReadAs weight_spelling IsWeight weight_height r i x j

  weight_of_sound : (s : Share) (i : List Tok) (y : WithHeight (Option (Share × ExprTree)) × List Tok) → lexeme_at i ≡ Some (lexeme.Mark (weight_mark s)) → R (weight_of s) i ≡ Ok y → Weighted i y.0 y.1
  unfolding weight_of
  weight_of_sound s [] y k h = absurd (cc)
  weight_of_sound s (t ∷ i) y k h = bind_ok (expr most r 1 i) _ y h (λ x j e g.
      let d = (expr_sound most r 1 (omega arith)).at i x j e in
      let is : t.lexeme ≡ lexeme.Mark (weight_mark s) = cc in
      yields (Weighted (t ∷ i)) _ _ y g (record {
        takes = subst (λ es. FitEach (t ∷ i) es j) (sym (weight_spells s x.0)) (is, d.takes);
        is = d.is.0;
        height = d.height;
        low = d.low;
      }))

  weight_by_sound : (q : Option Lexeme) (i : List Tok) (y : WithHeight (Option (Share × ExprTree)) × List Tok) → lexeme_at i ≡ q → R (weight_by q) i ≡ Ok y → Weighted i y.0 y.1
  weight_by_sound (Some (lexeme.Mark m.ColonEqual)) i y k h = weight_of_sound share.Each i y k h
  weight_by_sound (Some (lexeme.Mark m.ColonSlash)) i y k h = weight_of_sound share.Whole i y k h
  weight_by_sound _ i y k h = yields (Weighted i) (None, 0) i y h (record { takes = refl; is = tt; height = refl; low = omega arith })

  dist_item_sound : IsSound dist_item_spelling IsDistItem dist_item_height r (R dist_item)
  unfolding dist_item weight
  dist_item_sound = record {
    at = λ i x j h. bind_ok (a_range most r i) _ (x, j) h (λ s mid e g. bind_ok (R weight mid) _ (x, j) g (λ v j2 e2 g2.
        let a = (a_range_sound most r).at i s mid e in
        let z = weight_by_sound (lexeme_at mid) mid (v, j2) refl e2 in
        yields (ReadAs dist_item_spelling IsDistItem dist_item_height r i) _ _ (x, j) g2 (record {
          takes = takes_append i (range_spelling s.0) (weight_spelling v.0) mid j2 a.takes z.takes;
          is = (a.is, z.is);
          height = omega (arith, a.height, z.height);
          low = omega (arith, a.low, z.low);
        })));
  }

  abbrev Distributed : List Tok → WithHeight (Option DistTree) → List Tok → Type 0
  Distributed i x j = ReadAs dist_spelling IsDist dist_height r i x j

  dist_on_sound : (i : List Tok) (y : WithHeight (Option DistTree) × List Tok) → lexeme_at i ≡ Some (lexeme.Word w.Dist) → R dist_on i ≡ Ok y → Distributed i y.0 y.1
  unfolding dist_on
  dist_on_sound [] y k h = absurd (cc)
  dist_on_sound (t ∷ i) y k h = bind_ok (R (expect (f.Mark m.OpenBrace)) i) _ y h (λ u j e g. bind_ok (R (listing dist_item) j) _ y g (λ ds j2 e2 g2. bind_ok (R (expect (f.Mark m.CloseBrace)) j2) _ y g2 (λ u2 j3 e3 g3.
      let d = (listing_sound most r sub dist_item dist_item_spelling IsDistItem dist_item_height dist_item_sound).at j ds j2 e2 in
      let is : t.lexeme ≡ lexeme.Word w.Dist = cc in
      yields (Distributed (t ∷ i)) _ _ y g3 (record {
        takes = (
          (refl, is),
          takes_append i (mark m.OpenBrace ∷ []) (listed dist_item_spelling ds.0 ++ mark m.CloseBrace ∷ []) j j3 (expect_ok most r sub (f.Mark m.OpenBrace) i (u, j) e)
              (takes_append j (listed dist_item_spelling ds.0) (mark m.CloseBrace ∷ []) j2 j3 d.takes (expect_ok most r sub (f.Mark m.CloseBrace) j2 (u2, j3) e3)),
        );
        is = d.is;
        height = d.height ∙ sym (dist_height_is ds.0);
        low = d.low;
      }))))

  dist_by_sound : (q : Option Lexeme) (i : List Tok) (y : WithHeight (Option DistTree) × List Tok) → lexeme_at i ≡ q → R (dist_by q) i ≡ Ok y → Distributed i y.0 y.1
  dist_by_sound (Some (lexeme.Word w.Dist)) i y k h = dist_on_sound i y k h
  dist_by_sound _ i y k h = yields (Distributed i) (None, 0) i y h (record { takes = refl; is = tt; height = refl; low = omega arith })

  -- what stands behind the expression of an item
  pub record Weighed (at : ℕ) (soft : Bool) (x : WithHeight ExprTree) (i : List Tok) (y : WithHeight ItemTree) (j : List Tok) : Type 0 where
    pub d : Option DistTree
    pub takes : FitEach i (dist_spelling d ++ mark m.Semicolon ∷ []) j
    pub is : IsDist d
    pub low : dist_height d ≤ r
    pub all : y ≡ (plain at soft x.0 d, max x.1 (dist_height d) + 1)

  pub plain_on_sound : (at : ℕ) (soft : Bool) (x : WithHeight ExprTree) (i : List Tok) (y : WithHeight ItemTree × List Tok) → R (plain_on at soft x) i ≡ Ok y → Weighed at soft x i y.0 y.1
  unfolding plain_on dist
  plain_on_sound at soft x i y h = bind_ok (R dist i) _ y h (λ d j e g. bind_ok (R (expect (f.Mark m.Semicolon)) j) _ y g (λ u j2 e2 g2.
      let a = dist_by_sound (lexeme_at i) i (d, j) refl e in
      yields (Weighed at soft x i) _ _ y g2 (record {
        d = d.0;
        takes = takes_append i (dist_spelling d.0) (mark m.Semicolon ∷ []) j j2 a.takes (expect_ok most r sub (f.Mark m.Semicolon) j (u, j2) e2);
        is = a.is;
        low = omega (arith, a.height, a.low);
        all = ap (λ h2. (plain at soft x.0 d.0, max x.1 h2 + 1)) a.height;
      })))

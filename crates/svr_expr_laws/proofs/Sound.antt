-- What is read is an expression of the grammar that spells the tokens.
use Rattle.std.proofs.Common.{◌≡◌, ℕ, zero, suc, ◌<◌, ◌≤◌, true, List, [], ◌∷◌, ◌++◌, Option, Some, None, Ok, refl, sym, ◌∙◌, ap, subst, arith}
use Rattle.svr_token.specs.declared.Lexeme.TheVariants as lexeme
use Rattle.svr_token.specs.declared.Word.TheVariants as w
use Rattle.svr_token.specs.declared.Mark.TheVariants as m
use Rattle.svr_token.specs.declared.NameKind.{NameKind}
use Rattle.svr_operator.specs.declared.BinOp.{BinOp}
use Rattle.svr_tree.specs.Tokens.{Tok, FitEach, mark, word}
use Rattle.svr_tree.specs.Operators.{binary_mark, multiplicative_level, precedence, least_right, unary_level, selection_level}
use Rattle.svr_tree.specs.ExprTree.{ExprTree, exprs_of, ranges_of}
use Rattle.svr_tree.specs.DeclGrammar.{greatest}
use Rattle.svr_tree.specs.ExprGrammar.{expr_spelling, exprs_spelling, ranges_spelling, range_spelling, level, start, is_path, is_member, IsExpr, AreExprs, IsRange, expr_height, exprs_height, ranges_height, range_height}
use Rattle.svr_tree.specs.ItemGrammar.{IsPath, IsMember}
use Rattle.svr_reader.specs.Outcomes.{Turn, go, done, Parser, lexeme_at, number_at, entered, turns}
use Rattle.svr_reader.specs.declared.fixed.Fixed.TheVariants as f
use Rattle.svr_reader.specs.Program.{run, expect}
use Rattle.svr_reader.specs.Steps.{is_fixed}
use Rattle.svr_reader.specs.Lists.{WithHeight}
use Rattle.svr_reader.proofs.Steps.{bind_ok, yields, turn_ok, takes_append, entered_ok, choose_ok, expect_ok, fixed_is}
use Rattle.svr_reader.proofs.Rooms.{none_never}
use Rattle.svr_reader.proofs.Layers.{ReadAs, IsSound}
use Rattle.svr_expr.specs.declared.connective.Connective.{Connective}
use Rattle.svr_expr.specs.declared.connective.Connective.TheVariants as connective
use Rattle.svr_expr.specs.Connectives.{connective_of, connective_level, goes_on}
use Rattle.svr_expr.specs.ExprRules.{Rule, known_path, path_in, index_on, member_step, member_in, with_suffixes, ranges, prefix, binary_on, choice_on, inside_on, extend_by, extend, climb_by, climb_step, climb, expr_in, a_path, a_member, rest_of_path, rest_of_operand, node, expr, expr_starts, path_starts, a_known_path, some_exprs, a_range, path_rest}
use Rattle.svr_expr_laws.proofs.Connectives.{precedence_low, connective_low, groups, right_low, goes_ok, spells_connective, connective_back}
use Rattle.svr_expr_laws.proofs.Trees.{begins, ranges_spelling_is, ranges_height_is, are_ranges, exprs_spelling_is, exprs_height_is, are_exprs}
use Rattle.svr_expr_laws.proofs.Names.{KnownPath, known_path_sound}
use Rattle.svr_expr_laws.proofs.SoundParts.{IsAt, IsBase, ReadPrimary, first_of, ranges_sound, exprs_sound, range_sound, path_in_sound, with_suffixes_sound, prefix_sound, path_rest_sound}

-- a left operand that was read from i0, and goes on at i
pub record IsLeft (r at least : ℕ) (i0 : List Tok) (x : WithHeight ExprTree) (i : List Tok) : Type 0 where
  pub takes : FitEach i0 (expr_spelling x.0) i
  pub is : IsExpr x.0
  pub above : least ≤ level x.0
  pub height : x.1 ≡ expr_height x.0
  pub low : x.1 ≤ suc r
  pub begins : at ≡ start x.0

pub left_of : (r least : ℕ) (i : List Tok) (x : WithHeight ExprTree) (j : List Tok) → least ≤ unary_level → ReadPrimary r i x j → IsLeft r (number_at i) least i x j
left_of r least i x j low d = let v = d.is.1 in record { takes = d.takes; is = d.is.0; above = omega (arith, v, low); height = d.height; low = d.low; begins = (begins x.0 i j d.is.0 d.takes).at }

pub left_read : (r at least : ℕ) (i : List Tok) (x : WithHeight ExprTree) (j : List Tok) → IsLeft r at least i x j → ReadAs expr_spelling (IsAt least) expr_height (suc r) i x j
left_read r at least i x j d = record { takes = d.takes; is = (d.is, d.above); height = d.height; low = d.low }

-- a primary is left whole by any connective
pub primary_binding : (t : ExprTree) → level t ≡ unary_level → (i : List Tok) (k : Connective) → connective_of (lexeme_at i) ≡ Some k → connective_level k < least_right (level t)
primary_binding t e i k q = let low = connective_low k in subst (λ z. connective_level k < least_right z) (sym e) (omega (arith, low))

module _ (most r : ℕ) (sub : ℕ → Parser (WithHeight ExprTree)) (ok : (least : ℕ) → least ≤ unary_level → IsSound expr_spelling (IsAt least) expr_height r (sub least)) where
  abbrev R : {A : Type 0} → Rule A → Parser A
  R p = run most r sub p

  -- an operand extended by a connective of level n
  abbrev Extended : ℕ → ℕ → List Tok → ℕ → WithHeight ExprTree → List Tok → Type 0
  Extended at least i0 n x j = IsLeft r at least i0 x j × (level x.0 ≡ n)

  binary_on_sound : (at least : ℕ) (i0 : List Tok) (left : WithHeight ExprTree) (t : Tok) (i : List Tok) (op : BinOp) (y : WithHeight ExprTree × List Tok)
      → IsLeft r at least i0 left (t ∷ i) → left.1 ≤ r → t.lexeme ≡ lexeme.Mark (binary_mark op)
      → least ≤ precedence op → precedence op < least_right (level left.0) → R (binary_on at left op) i ≡ Ok y → Extended at least i0 (precedence op) y.0 y.1
  unfolding binary_on
  binary_on_sound at least i0 left t i op y l low k above binding h = bind_ok (sub (least_right (precedence op)) i) _ y h (λ x j e g.
      let s = (ok (least_right (precedence op)) (right_low (precedence op) multiplicative_level (precedence_low op) (omega arith))).at i x j e in
      yields (Extended at least i0 (precedence op)) _ _ y g (
        record {
          takes = takes_append i0 (expr_spelling left.0) (mark (binary_mark op) ∷ expr_spelling x.0) (t ∷ i) j l.takes (k, s.takes);
          is = (l.begins, l.is, s.is.0, groups (precedence op) (level left.0) binding, s.is.1);
          above = above;
          height = omega (arith, l.height, s.height);
          low = omega (arith, low, s.low);
          begins = refl;
        },
        refl,
      ))

  choice_on_sound : (at least : ℕ) (i0 : List Tok) (left : WithHeight ExprTree) (t : Tok) (i : List Tok) (y : WithHeight ExprTree × List Tok)
      → IsLeft r at least i0 left (t ∷ i) → left.1 ≤ r → t.lexeme ≡ lexeme.Mark m.Question → least ≤ 2 → 2 < least_right (level left.0) → R (choice_on at left) i ≡ Ok y → Extended at least i0 2 y.0 y.1
  unfolding choice_on
  choice_on_sound at least i0 left t i y l low k above binding h =
      bind_ok (sub 1 i) _ y h (λ met j e g. bind_ok (R (expect (f.Mark m.Colon)) j) _ y g (λ u j2 e2 g2. bind_ok (sub 2 j2) _ y g2 (λ unmet j3 e3 g3.
      let a = (ok 1 (omega arith)).at i met j e in
      let z = (ok 2 (omega arith)).at j2 unmet j3 e3 in
      let colon : FitEach j (mark m.Colon ∷ []) j2 = expect_ok most r sub (f.Mark m.Colon) j (u, j2) e2 in
      yields (Extended at least i0 2) _ _ y g3 (
        record {
          takes = takes_append i0 (expr_spelling left.0) (mark m.Question ∷ (expr_spelling met.0 ++ mark m.Colon ∷ expr_spelling unmet.0)) (t ∷ i) j3 l.takes
              (k, takes_append i (expr_spelling met.0) (mark m.Colon ∷ expr_spelling unmet.0) j j3 a.takes (takes_append j (mark m.Colon ∷ []) (expr_spelling unmet.0) j2 j3 colon z.takes));
          is = (l.begins, l.is, a.is.0, z.is.0, groups 2 (level left.0) binding, z.is.1);
          above = above;
          height = omega (arith, l.height, a.height, z.height);
          low = omega (arith, low, a.low, z.low);
          begins = refl;
        },
        refl,
      ))))

  inside_on_sound : (at least : ℕ) (i0 : List Tok) (left : WithHeight ExprTree) (t : Tok) (i : List Tok) (y : WithHeight ExprTree × List Tok)
      → IsLeft r at least i0 left (t ∷ i) → left.1 ≤ r → t.lexeme ≡ lexeme.Word w.Inside → least ≤ 9 → 9 < least_right (level left.0) → R (inside_on at left) i ≡ Ok y → Extended at least i0 9 y.0 y.1
  unfolding inside_on
  inside_on_sound at least i0 left t i y l low k above binding h =
      bind_ok (R (expect (f.Mark m.OpenBrace)) i) _ y h (λ u j e g. bind_ok (R ranges j) _ y g (λ xs j2 e2 g2. bind_ok (R (expect (f.Mark m.CloseBrace)) j2) _ y g2 (λ u2 j3 e3 g3.
      let d = (ranges_sound most r sub ok).at j xs j2 e2 in
      let takes : FitEach j (ranges_spelling (ranges_of xs.0)) j2 = subst (λ es. FitEach j es j2) (sym (ranges_spelling_is xs.0)) d.takes in
      let high : ranges_height (ranges_of xs.0) ≡ greatest range_height xs.0 = ranges_height_is xs.0 in
      yields (Extended at least i0 9) _ _ y g3 (
        record {
          takes = takes_append i0 (expr_spelling left.0) (word w.Inside ∷ (mark m.OpenBrace ∷ (ranges_spelling (ranges_of xs.0) ++ mark m.CloseBrace ∷ []))) (t ∷ i) j3 l.takes (
            k,
            takes_append i (mark m.OpenBrace ∷ []) (ranges_spelling (ranges_of xs.0) ++ mark m.CloseBrace ∷ []) j j3 (expect_ok most r sub (f.Mark m.OpenBrace) i (u, j) e)
                (takes_append j (ranges_spelling (ranges_of xs.0)) (mark m.CloseBrace ∷ []) j2 j3 takes (expect_ok most r sub (f.Mark m.CloseBrace) j2 (u2, j3) e3)),
          );
          is = (l.begins, l.is, are_ranges xs.0 d.is, groups 9 (level left.0) binding);
          above = above;
          height = omega (arith, l.height, d.height, high);
          low = omega (arith, low, d.low);
          begins = refl;
        },
        refl,
      ))))

  extend_by_sound : (at least : ℕ) (i0 : List Tok) (left : WithHeight ExprTree) (t : Tok) (i : List Tok) (k : Connective) (y : WithHeight ExprTree × List Tok)
      → IsLeft r at least i0 left (t ∷ i) → left.1 ≤ r → t.lexeme ≡ spells_connective k → least ≤ connective_level k → connective_level k < least_right (level left.0) → R (extend_by at left k) i ≡ Ok y → Extended at least i0 (connective_level k) y.0 y.1
  extend_by_sound at least i0 left t i (connective.Binary op) y l low k above binding h = binary_on_sound at least i0 left t i op y l low k above binding h
  extend_by_sound at least i0 left t i connective.Choice y l low k above binding h = choice_on_sound at least i0 left t i y l low k above binding h
  extend_by_sound at least i0 left t i connective.Inside y l low k above binding h = inside_on_sound at least i0 left t i y l low k above binding h

  extend_sound : (at least : ℕ) (i0 : List Tok) (left : WithHeight ExprTree) (i : List Tok) (k : Connective) (y : WithHeight ExprTree × List Tok)
      → IsLeft r at least i0 left i → connective_of (lexeme_at i) ≡ Some k → least ≤ connective_level k → connective_level k < least_right (level left.0) → R (extend at left k) i ≡ Ok y → Extended at least i0 (connective_level k) y.0 y.1
  unfolding extend
  extend_sound at least i0 left i k y l is above binding h = bind_ok (entered r left.1 i) _ y h (λ n0 j e g. let n = entered_ok r left.1 i n0 j e in
      let seen : Some n.t.lexeme ≡ Some (spells_connective k) = first_of n.t j i _ n.is (connective_back (lexeme_at i) k is) in
      let first : n.t.lexeme ≡ spells_connective k = cc in
      extend_by_sound at least i0 left n.t j k y (subst (λ z. IsLeft r at least i0 left z) n.is l) n.fits first above binding g)

  -- a turn goes on with a connective, or ends
  climb_by_ok : {G : Type 0} (at least : ℕ) (s : WithHeight ExprTree × ℕ) (i : List Tok) (o : Option Connective) (v : Turn (WithHeight ExprTree × ℕ) (WithHeight ExprTree)) (j : List Tok) → connective_of (lexeme_at i) ≡ o → R (climb_by at least s o) i ≡ Ok (v, j)
      → ((k : Connective) (longer : WithHeight ExprTree) → connective_of (lexeme_at i) ≡ Some k → goes_on least s.1 (connective_level k) ≡ true → R (extend at s.0 k) i ≡ Ok (longer, j) → v ≡ go (longer, least_right (connective_level k)) → G)
      → (i ≡ j → v ≡ done s.0 → G) → G
  climb_by_ok at least s i None v j e h g d = let both : ◌≡◌ {A = Turn (WithHeight ExprTree × ℕ) (WithHeight ExprTree) × List Tok} (done s.0, i) (v, j) = cc in d (ap (λ z. z.1) both) (sym (ap (λ z. z.0) both))
  climb_by_ok at least s i (Some k) v j e h g d = choose_ok most r sub (goes_on least s.1 (connective_level k)) _ _ i (Ok (v, j)) h
      (λ w1 k2. bind_ok (R (extend at s.0 k) i) _ (v, j) k2 (λ longer j2 e2 k3.
      let both : ◌≡◌ {A = Turn (WithHeight ExprTree × ℕ) (WithHeight ExprTree) × List Tok} (go (longer, least_right (connective_level k)), j2) (v, j) = cc in
      g k longer e w1 (e2 ∙ ap (λ z. Ok (longer, z.1)) both) (sym (ap (λ z. z.0) both))))
      (λ w1 k2. let both : ◌≡◌ {A = Turn (WithHeight ExprTree × ℕ) (WithHeight ExprTree) × List Tok} (done s.0, i) (v, j) = cc in d (ap (λ z. z.1) both) (sym (ap (λ z. z.0) both)))

  pub climb_step_ok : {G : Type 0} (at least : ℕ) (s : WithHeight ExprTree × ℕ) (i : List Tok) (v : Turn (WithHeight ExprTree × ℕ) (WithHeight ExprTree)) (j : List Tok) → R (climb_step at least s) i ≡ Ok (v, j)
      → ((k : Connective) (longer : WithHeight ExprTree) → connective_of (lexeme_at i) ≡ Some k → goes_on least s.1 (connective_level k) ≡ true → R (extend at s.0 k) i ≡ Ok (longer, j) → v ≡ go (longer, least_right (connective_level k)) → G)
      → (i ≡ j → v ≡ done s.0 → G) → G
  unfolding climb_step
  climb_step_ok at least s i v j h g d = climb_by_ok at least s i (connective_of (lexeme_at i)) v j refl h g d

  -- `binding`: a connective that comes next within the bound binds less than the operand
  climb_turns_sound : (at least n : ℕ) (s : WithHeight ExprTree × ℕ) (i0 i : List Tok) (y : WithHeight ExprTree × List Tok)
      → IsLeft r at least i0 s.0 i → ((k : Connective) → connective_of (lexeme_at i) ≡ Some k → connective_level k < s.1 → connective_level k < least_right (level s.0.0)) → turns n (λ s2. R (climb_step at least s2)) s i ≡ Ok y → IsLeft r at least i0 y.0 y.1
  climb_turns_sound at least zero s i0 i y l binding h = absurd (cc)
  climb_turns_sound at least (suc n) s i0 i y l binding h = turn_ok (R (climb_step at least s) i) (turns n (λ s2. R (climb_step at least s2))) y h
      (λ s2 j e g. climb_step_ok at least s i (go s2) j e
      (λ k longer q w1 e2 is2. let same : s2 ≡ (longer, least_right (connective_level k)) = cc in
      let going = goes_ok least s.1 (connective_level k) w1 in
      let d = extend_sound at least i0 s.0 i k (longer, j) l q going.0 (binding k q going.1) e2 in
      climb_turns_sound at least n (longer, least_right (connective_level k)) i0 j y d.0 (λ k2 q2 less. subst (λ z. connective_level k2 < least_right z) (sym d.1) less)
      (subst (λ z. turns n (λ s3. R (climb_step at least s3)) z j ≡ Ok y) same g))
      (λ at2 is2. absurd (cc)))
      (λ a j e g. climb_step_ok at least s i (done a) j e
      (λ k longer q w1 e2 is2. absurd (cc))
      (λ at2 is2. let same : a ≡ s.0 = cc in yields (IsLeft r at least i0) a j y g (rw (same, ← at2) l)))

  -- connectives behind an operand that the next one leaves whole
  pub climb_sound : (at least : ℕ) (i0 : List Tok) (x : WithHeight ExprTree) (i : List Tok) (y : WithHeight ExprTree × List Tok) → IsLeft r at least i0 x i → ((k : Connective) → connective_of (lexeme_at i) ≡ Some k → connective_level k < least_right (level x.0)) → R (climb at least x) i ≡ Ok y → IsLeft r at least i0 y.0 y.1
  unfolding climb
  climb_sound at least i0 x i y l binding h = climb_turns_sound at least most (x, selection_level) i0 i y l (λ k q less. binding k q) h

  expr_in_sound : (least : ℕ) → least ≤ unary_level → IsSound expr_spelling (IsAt least) expr_height (suc r) (R (expr_in least))
  unfolding expr_in
  expr_in_sound least low = record {
    at = λ i y j h. bind_ok (R prefix i) _ (y, j) h (λ x mid e g.
        let p = prefix_sound most r sub ok i (x, mid) e in
        left_read r (number_at i) least i y j (climb_sound (number_at i) least i x mid (y, j) (left_of r least i x mid low p) (primary_binding x.0 p.is.1 mid) g));
  }

  -- ---- paths and members

  path_tree : (i : List Tok) (y : WithHeight ExprTree × List Tok) → R path_in i ≡ Ok y → is_path y.0.0 ≡ true × (is_member y.0.0 ≡ true)
  unfolding path_in
  path_tree i y h = bind_ok (R known_path i) _ y h (λ p j e g. let d = known_path_sound most r sub i p j e in
      yields (λ x _. is_path x.0 ≡ true × (is_member x.0 ≡ true)) _ _ y g (ap is_path d.is, ap is_member d.is))

  pub path_sound : IsSound expr_spelling IsPath expr_height (suc r) (R path_in)
  path_sound = record { at = λ i x j h. let b = path_in_sound most r sub ok i (x, j) h in record { takes = b.takes; is = (b.is, (path_tree i (x, j) h).0); height = b.height; low = b.low } }

  abbrev MemberBase : ℕ → List Tok → WithHeight ExprTree → List Tok → Type 0
  MemberBase at i0 x i = IsBase r at i0 x i × (is_member x.0 ≡ true)

  index_on_sound : (at : ℕ) (i0 : List Tok) (base : WithHeight ExprTree) (i : List Tok) (y : WithHeight ExprTree × List Tok) → MemberBase at i0 base i → lexeme_at i ≡ Some (lexeme.Mark m.OpenBracket) → R (index_on at base) i ≡ Ok y → MemberBase at i0 y.0 y.1
  unfolding index_on
  index_on_sound at i0 base i y b k h = bind_ok (entered r base.1 i) _ y h (λ n0 j e g. let n = entered_ok r base.1 i n0 j e in bind_ok (sub 1 j) _ y g (λ x j2 e2 g2. bind_ok (R (expect (f.Mark m.CloseBracket)) j2) _ y g2 (λ u j5 e5 g5.
      let s = (ok 1 (omega arith)).at j x j2 e2 in
      let brace : Some n.t.lexeme ≡ Some (lexeme.Mark m.OpenBracket) = first_of n.t j i _ n.is k in
      let is : n.t.lexeme ≡ lexeme.Mark m.OpenBracket = cc in
      let before : FitEach i0 (expr_spelling base.0) (n.t ∷ j) = subst (λ z. FitEach i0 (expr_spelling base.0) z) n.is b.0.takes in
      yields (MemberBase at i0) _ _ y g5 (
        record {
          takes = takes_append i0 (expr_spelling base.0) (mark m.OpenBracket ∷ (expr_spelling x.0 ++ mark m.CloseBracket ∷ [])) (n.t ∷ j) j5 before
              (is, takes_append j (expr_spelling x.0) (mark m.CloseBracket ∷ []) j2 j5 s.takes (expect_ok most r sub (f.Mark m.CloseBracket) j2 (u, j5) e5));
          is = (b.0.begins, b.0.is, s.is.0, b.0.selects);
          selects = refl;
          height = omega (arith, b.0.height, s.height);
          low = omega (arith, n.fits, s.low);
          begins = refl;
        },
        b.1,
      ))))

  member_step_ok : {G : Type 0} (at : ℕ) (i0 : List Tok) (base : WithHeight ExprTree) (i : List Tok) (v : Turn (WithHeight ExprTree) (WithHeight ExprTree)) (j : List Tok) → MemberBase at i0 base i → R (member_step at base) i ≡ Ok (v, j)
      → ((x : WithHeight ExprTree) → v ≡ go x → MemberBase at i0 x j → G) → (v ≡ done base → MemberBase at i0 base j → G) → G
  unfolding member_step
  member_step_ok at i0 base i v j b h g d = choose_ok most r sub (is_fixed (f.Mark m.OpenBracket) (lexeme_at i)) _ _ i (Ok (v, j)) h
      (λ w1 e. bind_ok (R (index_on at base) i) _ (v, j) e (λ x j2 e2 g2.
      let both : ◌≡◌ {A = Turn (WithHeight ExprTree) (WithHeight ExprTree) × List Tok} (go x, j2) (v, j) = cc in
      g x (sym (ap (λ z. z.0) both)) (subst (λ z. MemberBase at i0 x z) (ap (λ z. z.1) both) (index_on_sound at i0 base i (x, j2) b (fixed_is (f.Mark m.OpenBracket) (lexeme_at i) w1) e2))))
      (λ w1 e. let both : ◌≡◌ {A = Turn (WithHeight ExprTree) (WithHeight ExprTree) × List Tok} (done base, i) (v, j) = cc in
      d (sym (ap (λ z. z.0) both)) (subst (λ z. MemberBase at i0 base z) (ap (λ z. z.1) both) b))

  member_turns_sound : (at n : ℕ) (i0 : List Tok) (base : WithHeight ExprTree) (i : List Tok) (y : WithHeight ExprTree × List Tok) → MemberBase at i0 base i → turns n (λ s. R (member_step at s)) base i ≡ Ok y → MemberBase at i0 y.0 y.1
  member_turns_sound at zero i0 base i y b h = absurd (cc)
  member_turns_sound at (suc n) i0 base i y b h = turn_ok (R (member_step at base) i) (turns n (λ s. R (member_step at s))) y h
      (λ s2 j e g. member_step_ok at i0 base i (go s2) j b e
      (λ x is b2. let same : s2 ≡ x = cc in member_turns_sound at n i0 x j y b2 (subst (λ z. turns n (λ s. R (member_step at s)) z j ≡ Ok y) same g))
      (λ is b2. absurd (cc)))
      (λ a j e g. member_step_ok at i0 base i (done a) j b e
      (λ x is b2. absurd (cc))
      (λ is b2. let same : a ≡ base = cc in yields (MemberBase at i0) a j y g (rw same b2)))

  pub member_sound : IsSound expr_spelling IsMember expr_height (suc r) (R member_in)
  unfolding member_in
  member_sound = record {
    at = λ i x j h. bind_ok (R path_in i) _ (x, j) h (λ p mid e g.
        let b = member_turns_sound (number_at i) most i p mid (x, j) (path_in_sound most r sub ok i (p, mid) e, (path_tree i (p, mid) e).1) g in
        record { takes = b.0.takes; is = (b.0.is, b.1); height = b.0.height; low = b.0.low });
  }

-- ---- nodes of every height

pub expr_sound : (most r least : ℕ) → least ≤ unary_level → IsSound expr_spelling (IsAt least) expr_height r (expr most r least)
unfolding node
expr_sound most zero least low = record { at = λ i x j h. absurd (none_never (WithHeight ExprTree) expr_starts i (x, j) h) }
expr_sound most (suc r) least low = expr_in_sound most r (expr most r) (expr_sound most r) least low

pub a_path_sound : (most r : ℕ) → IsSound expr_spelling IsPath expr_height r (node most r a_path)
unfolding node
a_path_sound most zero = record { at = λ i x j h. absurd (none_never (WithHeight ExprTree) path_starts i (x, j) h) }
a_path_sound most (suc r) = path_sound most r (expr most r) (expr_sound most r)

pub a_member_sound : (most r : ℕ) → IsSound expr_spelling IsMember expr_height r (node most r a_member)
unfolding node
a_member_sound most zero = record { at = λ i x j h. absurd (none_never (WithHeight ExprTree) path_starts i (x, j) h) }
a_member_sound most (suc r) = member_sound most r (expr most r) (expr_sound most r)

pub some_exprs_sound : (most r : ℕ) → IsSound (λ xs. exprs_spelling (exprs_of xs)) (λ xs. AreExprs (exprs_of xs)) (λ xs. exprs_height (exprs_of xs)) r (some_exprs most r)
unfolding some_exprs
some_exprs_sound most r = record {
  at = λ i xs j h. let d = (exprs_sound most r (expr most r) (expr_sound most r)).at i xs j h in record {
    takes = subst (λ es. FitEach i es j) (sym (exprs_spelling_is xs.0)) d.takes;
    is = are_exprs xs.0 d.is;
    height = d.height ∙ sym (exprs_height_is xs.0);
    low = d.low;
  };
}

pub a_range_sound : (most r : ℕ) → IsSound range_spelling IsRange range_height r (a_range most r)
unfolding a_range
a_range_sound most r = range_sound most r (expr most r) (expr_sound most r)

-- a path, where there is room for one
pub a_known_path_sound : (most r : ℕ) (i : List Tok) (x : ExprTree × NameKind) (j : List Tok) → a_known_path most r i ≡ Ok (x, j) → KnownPath i x j × (1 ≤ r)
unfolding a_known_path
a_known_path_sound most zero i x j h = absurd (none_never (ExprTree × NameKind) path_starts i (x, j) h)
a_known_path_sound most (suc r) i x j h = (known_path_sound most r (expr most r) i x j h, omega arith)

-- the rest of an expression behind a path that was read from i0
pub rest_sound : (most r : ℕ) (i0 : List Tok) (p : ExprTree × NameKind) (i : List Tok) (y : WithHeight ExprTree) (j : List Tok) → KnownPath i0 p i → node most (suc r) (rest_of_path (number_at i0) p) i ≡ Ok (y, j) → ReadAs expr_spelling (IsAt 1) expr_height (suc r) i0 y j
unfolding node
rest_sound most r i0 p i y j d h = bind_ok (run most r (expr most r) (path_rest (number_at i0) p) i) _ (y, j) h (λ z mid e g.
    let q = path_rest_sound most r (expr most r) (expr_sound most r) i0 p i (z, mid) d e in
    let l = left_of r 1 i0 z mid (omega arith) q in
    left_read r (number_at i0) 1 i0 y j (climb_sound most r (expr most r) (expr_sound most r) (number_at i0) 1 i0 z mid (y, j) l (primary_binding z.0 q.is.1 mid) g))

-- connectives behind an operand that was read from i0 and that the next one leaves whole
pub connectives_sound : (most r at : ℕ) (i0 : List Tok) (x : WithHeight ExprTree) (i : List Tok) (y : WithHeight ExprTree) (j : List Tok) → IsLeft r at 1 i0 x i → ((k : Connective) → connective_of (lexeme_at i) ≡ Some k → connective_level k < least_right (level x.0))
    → node most (suc r) (rest_of_operand at x) i ≡ Ok (y, j) → ReadAs expr_spelling (IsAt 1) expr_height (suc r) i0 y j
unfolding node
connectives_sound most r at i0 x i y j l binding h = left_read r at 1 i0 y j (climb_sound most r (expr most r) (expr_sound most r) at 1 i0 x i (y, j) l binding h)

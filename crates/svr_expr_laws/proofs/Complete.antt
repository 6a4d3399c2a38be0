-- An expression of the grammar that spells the tokens is read.
use Rattle.std.proofs.Common.{◌≡◌, ℕ, zero, suc, ◌+◌, ◌<◌, ◌≤◌, max, true, false, List, [], ◌∷◌, ◌++◌, length, Option, Some, None, Ok, refl, sym, ◌∙◌, ap, subst, arith}
use Rattle.svr_token.specs.declared.Lexeme.{Lexeme}
use Rattle.svr_token.specs.declared.Lexeme.TheVariants as lexeme
use Rattle.svr_token.specs.declared.Word.TheVariants as w
use Rattle.svr_token.specs.declared.Mark.TheVariants as m
use Rattle.svr_operator.specs.declared.UnOp.{UnOp}
use Rattle.svr_operator.specs.declared.UnOp.TheVariants as u
use Rattle.svr_operator.specs.declared.BinOp.{BinOp}
use Rattle.svr_tree.specs.Tokens.{Tok, Entry, On, Any, FitEach, mark, word}
use Rattle.svr_tree.specs.DeclGrammar.{greatest}
use Rattle.svr_tree.specs.Operators.{unary_mark, binary_mark, precedence, least_right, unary_level, selection_level}
use Rattle.svr_tree.specs.ExprTree.{ExprTree, number, path, bit_select, part_select, unary, binary, choice, inside, join, copies, sign, paren, ExprTrees, RangeTree, RangeTrees, ranges_of, reduce}
use Rattle.svr_tree.specs.ExprGrammar.{system_name, expr_spelling, exprs_spelling, ranges_spelling, level, start, is_selectable, IsExpr, AreExprs, AreRanges, expr_height, exprs_height, ranges_height, range_height, is_path}
use Rattle.svr_reader.specs.Outcomes.{go, done, Outcome, Parser, lexeme_at, number_at, next, entered, turned, turns}
use Rattle.svr_reader.specs.declared.fixed.Fixed.TheVariants as f
use Rattle.svr_reader.specs.Program.{run, expect}
use Rattle.svr_reader.specs.Steps.{same_mark}
use Rattle.svr_reader.specs.Lists.{WithHeight}
use Rattle.svr_reader.proofs.Steps.{bind_is, takes_parts, takes_less, lexeme_of, lexeme_on, entered_is, expects, choose_true, choose_false}
use Rattle.svr_reader.proofs.Layers.{IsComplete}
use Rattle.svr_expr.specs.declared.connective.Connective.{Connective}
use Rattle.svr_expr.specs.declared.connective.Connective.TheVariants as connective
use Rattle.svr_expr.specs.Connectives.{unary_of, connective_of, connective_level, binds, goes_on}
use Rattle.svr_expr.specs.ExprRules.{Rule, with_parens, path_expr, ranges, literal, unary_by, prefix_by, prefix, binary_on, choice_on, inside_on, extend_by, extend, climb_by, climb_step, climb, expr_in, node, expr, path_starts}
use Rattle.svr_expr_laws.proofs.Connectives.{precedence_pos, precedence_low, lower_left, binding_left, right_pos, least_low, goes, stops, unary_is, spells_connective, connective_is, binds_connective, spelled_binds, binds_gap}
use Rattle.svr_expr_laws.proofs.Trees.{height_pos, level_pos, list_of, list_is, exprs_height_is, exprs_are, list_of_ranges, ranges_list_is, ranges_spelling_is, ranges_height_is, ranges_are, parens, with_parens_spelling, begins, reduce_rest}
use Rattle.svr_expr_laws.proofs.SoundParts.{IsAt}
use Rattle.svr_expr_laws.proofs.CompleteParts.{Before, IsCompleteExpr, before_mark, sees_none, selectable_first, fuel_left, ranges_complete, unary_expr_complete, paren_expr_complete, sign_expr_complete, copies_complete, join_complete, bare_complete, parens_complete, by_path, reduce_complete}

pub after_token : (i rest : List Tok) (q : Lexeme) (es : List Entry) → FitEach i (Any q ∷ es) rest → FitEach (next i) es rest
after_token [] rest q es h = absurd h
after_token (t ∷ i) rest q es h = h.1

pub next_less : (i : List Tok) → length (next i) ≤ length i
next_less [] = omega arith
next_less (t ∷ i) = omega arith

module _ (most r : ℕ) (sub : ℕ → Parser (WithHeight ExprTree)) (ok : IsCompleteExpr most r sub) where
  abbrev R : {A : Type 0} → Rule A → Parser A
  R p = run most r sub p

  any_at : (x : ExprTree) (i rest : List Tok) → length i ≤ most + length rest → IsExpr x → expr_height x ≤ r → FitEach i (expr_spelling x) rest → binds (lexeme_at rest) < 1 → sub 1 i ≡ Ok ((x, expr_height x), rest)
  any_at x i rest few l low h c = (ok 1 (omega arith)).at x i rest few (l, level_pos x) low h c

  -- ---- primaries

  by_on : (i rest : List Tok) (k : ℕ) (q : Lexeme) (es : List Entry) → FitEach i (On k q ∷ es) rest → R prefix i ≡ R (prefix_by (Some q)) i
  unfolding prefix
  by_on i rest k q es h = ap (λ v. R (prefix_by v) i) (lexeme_on i rest k q es h)

  by_select : (i : List Tok) → path_starts (lexeme_at i) ≡ true → R prefix i ≡ R path_expr i
  unfolding prefix
  by_select i h = by_path most r sub ok (lexeme_at i) i h

  by_operator : (op : UnOp) (i : List Tok) → R (prefix_by (Some (lexeme.Mark (unary_mark op)))) i ≡ R (unary_by (unary_of (unary_mark op))) i
  by_operator op i = by op
    where
      by : (op : UnOp) → R (prefix_by (Some (lexeme.Mark (unary_mark op)))) i ≡ R (unary_by (unary_of (unary_mark op))) i
      by u.Plus = refl
      by u.Minus = refl
      by u.LogicalNot = refl
      by u.BitwiseNot = refl
      by u.ReduceAnd = refl
      by u.ReduceNand = refl
      by u.ReduceOr = refl
      by u.ReduceNor = refl
      by u.ReduceXor = refl
      by u.ReduceTildeXor = refl
      by u.ReduceXorTilde = refl

  bare_prefix : r < most → (t : ExprTree) (i rest : List Tok) → length i ≤ most + length rest → IsExpr t → is_selectable t ≡ true → expr_height t ≤ suc r → FitEach i (expr_spelling t) rest → binds (lexeme_at rest) < selection_level → R prefix i ≡ Ok ((t, expr_height t), rest)
  bare_prefix roomy t i rest few l k low h c = by_select i (selectable_first t i rest l k h) ∙ bare_complete most r sub ok roomy t i rest few l k low h c

  parens_first : (t : ExprTree) (i rest : List Tok) → IsExpr t → is_selectable t ≡ true → FitEach i (expr_spelling (with_parens t)) rest → path_starts (lexeme_at i) ≡ true
  parens_first t i rest l k h = let p = takes_parts i (expr_spelling t) parens rest (subst (λ es. FitEach i es rest) (with_parens_spelling t k) h) in selectable_first t i p.0 l k p.1

  parens_prefix : r < most → (t : ExprTree) (i rest : List Tok) → length i ≤ most + length rest → IsExpr t → is_selectable t ≡ true → expr_height t ≤ suc r → FitEach i (expr_spelling (with_parens t)) rest → binds (lexeme_at rest) < selection_level → R prefix i ≡ Ok ((with_parens t, expr_height (with_parens t)), rest)
  parens_prefix roomy t i rest few l k low h c = by_select i (parens_first t i rest l k h) ∙ parens_complete most r sub ok roomy t i rest few l k low h c

  -- a path begins an array reduction
  array_first : (t : ExprTree) (i rest : List Tok) → IsExpr t → is_path t ≡ true → FitEach i (expr_spelling t) rest → path_starts (lexeme_at i) ≡ true
  array_first (path at s names false) i rest l k h = selectable_first (path at s names false) i rest l refl h
  array_first _ i rest l k h = absurd (cc)

  -- ---- the way to an expression: a left operand, and the turns that are left

  record Reaches (t : ExprTree) (least : ℕ) (i rest : List Tok) : Type 0 where
    fuel : ℕ
    enough : most < fuel + expr_height t
    is : R (expr_in least) i ≡ turns fuel (λ s. R (climb_step (start t) least s)) ((t, expr_height t), least_right (level t)) rest

  reached : (t : ExprTree) (least : ℕ) (i rest : List Tok) → number_at i ≡ start t → level t ≡ unary_level → R prefix i ≡ Ok ((t, expr_height t), rest) → Reaches t least i rest
  unfolding expr_in climb
  reached t least i rest s v h = let pos = height_pos t in record {
    fuel = most;
    enough = omega (arith, pos);
    is = bind_is (R prefix i) _ (t, expr_height t) rest _ h (rw (s, v) refl);
  }

  pub extended : (at : ℕ) (left : WithHeight ExprTree) (k : Connective) (i m2 : List Tok) (y : Outcome (WithHeight ExprTree)) → left.1 ≤ r → lexeme_at i ≡ Some (spells_connective k) → next i ≡ m2 → R (extend_by at left k) m2 ≡ y → R (extend at left k) i ≡ y
  unfolding extend
  extended at left k [] m2 y low e n h = absurd (cc)
  extended at left k (t ∷ i) m2 y low e n h = bind_is (entered r left.1 (t ∷ i)) _ t.at i y (entered_is r left.1 t i low) (ap (R (extend_by at left k)) n ∙ h)

  pub turn : (n at least bound : ℕ) (left : WithHeight ExprTree) (k : Connective) (i j : List Tok) (longer : WithHeight ExprTree) → lexeme_at i ≡ Some (spells_connective k) → goes_on least bound (connective_level k) ≡ true → R (extend at left k) i ≡ Ok (longer, j)
      → turns (suc n) (λ s. R (climb_step at least s)) (left, bound) i ≡ turns n (λ s. R (climb_step at least s)) (longer, least_right (connective_level k)) j
  unfolding climb_step
  turn n at least bound left k i j longer e goes1 h = bind_is (R (climb_step at least (left, bound)) i) (turned (turns n (λ s. R (climb_step at least s)))) (go (longer, least_right (connective_level k))) j _
      (ap (λ q. R (climb_by at least (left, bound) (connective_of q)) i) e ∙ ap (λ o. R (climb_by at least (left, bound) o) i) (connective_is k)
      ∙ choose_true most r sub _ _ _ i goes1 ∙ bind_is (R (extend at left k) i) _ longer j _ h refl) refl

  stopped : (at least bound : ℕ) (left : WithHeight ExprTree) (i : List Tok) → binds (lexeme_at i) < least → R (climb_step at least (left, bound)) i ≡ Ok (done left, i)
  unfolding climb_step
  stopped at least bound left i c = by (connective_of (lexeme_at i)) refl
    where
      by : (o : Option Connective) → connective_of (lexeme_at i) ≡ o → R (climb_by at least (left, bound) o) i ≡ Ok (done left, i)
      by None e = refl
      by (Some k) e = let is = binds_connective (lexeme_at i) k e in choose_false most r sub _ _ _ i (stops least bound (connective_level k) (omega (arith, is, c)))

  pub last_turn : (n at least bound : ℕ) (left : WithHeight ExprTree) (i : List Tok) → binds (lexeme_at i) < least → turns (suc n) (λ s. R (climb_step at least s)) (left, bound) i ≡ Ok (left, i)
  last_turn n at least bound left i c = bind_is (R (climb_step at least (left, bound)) i) (turned (turns n (λ s. R (climb_step at least s)))) (done left) i _ (stopped at least bound left i c) refl

  -- one connective further
  further : r < most → (least : ℕ) (l t : ExprTree) (k : Connective) (i mid m2 rest : List Tok) → Reaches l least i mid → lexeme_at mid ≡ Some (spells_connective k) → next mid ≡ m2 → least ≤ connective_level k → connective_level k < least_right (level l)
      → expr_height l ≤ r → suc (expr_height l) ≤ expr_height t → start t ≡ start l → level t ≡ connective_level k → R (extend_by (start l) (l, expr_height l) k) m2 ≡ Ok ((t, expr_height t), rest) → Reaches t least i rest
  further roomy least l t k i mid m2 rest reach e n above binding low taller s v h =
      let p = fuel_left reach.fuel (expr_height l) r most reach.enough (omega (arith, low)) roomy in
      let step : R (extend (start l) (l, expr_height l) k) mid ≡ Ok ((t, expr_height t), rest) = extended (start l) (l, expr_height l) k mid m2 _ low e n h in
      record {
        fuel = p.0;
        enough = omega (arith, p.1, reach.enough, taller);
        is = reach.is ∙ ap (λ f1. turns f1 (λ s2. R (climb_step (start l) least s2)) ((l, expr_height l), least_right (level l)) mid) p.1
            ∙ turn p.0 (start l) least (least_right (level l)) (l, expr_height l) k mid rest (t, expr_height t) e (goes least (least_right (level l)) (connective_level k) above binding) step
            ∙ ap (λ z. turns p.0 (λ s2. R (climb_step z least s2)) ((t, expr_height t), least_right (connective_level k)) rest) (sym s)
            ∙ ap (λ z. turns p.0 (λ s2. R (climb_step (start t) least s2)) ((t, expr_height t), least_right z) rest) (sym v);
      }

  -- ---- what follows a connective

  pub binary_on_complete : (at : ℕ) (op : BinOp) (a x : ExprTree) (i rest : List Tok) → length i ≤ most + length rest → at ≡ start a → IsExpr x → least_right (precedence op) ≤ level x → expr_height x ≤ r
      → FitEach i (expr_spelling x) rest → binds (lexeme_at rest) < least_right (precedence op) → R (binary_on (start a) (a, expr_height a) op) i ≡ Ok ((binary at op a x, expr_height (binary at op a x)), rest)
  unfolding binary_on
  binary_on_complete at op a x i rest few e l v low h c =
      bind_is (sub (least_right (precedence op)) i) _ (x, expr_height x) rest _ ((ok (least_right (precedence op)) (right_pos (precedence op) (precedence_pos op))).at x i rest few (l, v) low h c)
      (ap (λ n. Ok ((binary n op a x, expr_height (binary n op a x)), rest)) (sym e))

  choice_on_complete : (at : ℕ) (a y n : ExprTree) (i rest : List Tok) → length i ≤ most + length rest → at ≡ start a → IsExpr y → IsExpr n → 2 ≤ level n → expr_height y ≤ r → expr_height n ≤ r
      → FitEach i (expr_spelling y ++ mark m.Colon ∷ expr_spelling n) rest → binds (lexeme_at rest) < 2 → R (choice_on (start a) (a, expr_height a)) i ≡ Ok ((choice at a y n, expr_height (choice at a y n)), rest)
  unfolding choice_on
  choice_on_complete at a y n i rest few e ly ln v lowy lown h c =
      let p = takes_parts i (expr_spelling y) (mark m.Colon ∷ expr_spelling n) rest h in
      let q = takes_parts p.0 (mark m.Colon ∷ []) (expr_spelling n) rest p.2 in
      let z = takes_less p.0 (mark m.Colon ∷ expr_spelling n) rest p.2 in
      let a1 = takes_less i (expr_spelling y) p.0 p.1 in
      let a2 = takes_less p.0 (mark m.Colon ∷ []) q.0 q.1 in
      bind_is (sub 1 i) _ (y, expr_height y) p.0 _ (any_at y i p.0 (omega (arith, few, z)) ly lowy p.1 (before_mark m.Colon refl p.0 rest (expr_spelling n) p.2))
      (bind_is (R (expect (f.Mark m.Colon)) p.0) _ tt q.0 _ (expects most r sub (f.Mark m.Colon) p.0 q.0 q.1)
      (bind_is (sub 2 q.0) _ (n, expr_height n) rest _ ((ok 2 (omega arith)).at n q.0 rest (omega (arith, few, a1, a2)) (ln, v) lown q.2 c)
      (ap (λ k. Ok ((choice k a y n, expr_height (choice k a y n)), rest)) (sym e))))

  inside_on_complete : (at : ℕ) (a : ExprTree) (xs : List RangeTree) (i rest : List Tok) → length i ≤ most + length rest → at ≡ start a → AreRanges (ranges_of xs) → ranges_height (ranges_of xs) ≤ r
      → FitEach i (mark m.OpenBrace ∷ (ranges_spelling (ranges_of xs) ++ mark m.CloseBrace ∷ [])) rest → R (inside_on (start a) (a, expr_height a)) i ≡ Ok ((inside at a (ranges_of xs), expr_height (inside at a (ranges_of xs))), rest)
  unfolding inside_on same_mark
  inside_on_complete at a xs i rest few e l low h =
      let o = takes_parts i (mark m.OpenBrace ∷ []) (ranges_spelling (ranges_of xs) ++ mark m.CloseBrace ∷ []) rest h in
      let p = takes_parts o.0 (ranges_spelling (ranges_of xs)) (mark m.CloseBrace ∷ []) rest o.2 in
      let a1 = takes_less i (mark m.OpenBrace ∷ []) o.0 o.1 in
      let z = takes_less p.0 (mark m.CloseBrace ∷ []) rest p.2 in
      let high : ranges_height (ranges_of xs) ≡ greatest range_height xs = ranges_height_is xs in
      bind_is (R (expect (f.Mark m.OpenBrace)) i) _ tt o.0 _ (expects most r sub (f.Mark m.OpenBrace) i o.0 o.1)
      (bind_is (R ranges o.0) _ (xs, greatest range_height xs) p.0 _
      ((ranges_complete most r sub ok).at xs o.0 p.0 (omega (arith, few, a1, z)) (ranges_are xs l) (omega (arith, low, high)) (subst (λ es. FitEach o.0 es p.0) (ranges_spelling_is xs) p.1)
      (before_mark m.CloseBrace refl p.0 rest [] p.2, sees_none (f.Mark m.Comma) m.CloseBrace refl p.0 rest [] p.2))
      (bind_is (R (expect (f.Mark m.CloseBrace)) p.0) _ tt rest _ (expects most r sub (f.Mark m.CloseBrace) p.0 rest p.2)
      (ap (λ z2. Ok ((inside z2 a (ranges_of xs), max (expr_height a) (greatest range_height xs) + 1), rest)) (sym e) ∙ ap (λ z2. Ok ((inside at a (ranges_of xs), max (expr_height a) z2 + 1), rest)) (sym high))))

  inside_on_any : (at : ℕ) (a : ExprTree) (set : RangeTrees) (i rest : List Tok) → length i ≤ most + length rest → at ≡ start a → AreRanges set → ranges_height set ≤ r
      → FitEach i (mark m.OpenBrace ∷ (ranges_spelling set ++ mark m.CloseBrace ∷ [])) rest → R (inside_on (start a) (a, expr_height a)) i ≡ Ok ((inside at a set, expr_height (inside at a set)), rest)
  inside_on_any at a set i rest few e l low h =
      let back = sym (ranges_list_is set) in
      subst (λ z. R (inside_on (start a) (a, expr_height a)) i ≡ Ok ((inside at a z, expr_height (inside at a z)), rest)) (ranges_list_is set)
      (inside_on_complete at a (list_of_ranges set) i rest few e (subst AreRanges back l) (subst (λ z. ranges_height z ≤ r) back low) (subst (λ z. FitEach i (mark m.OpenBrace ∷ (ranges_spelling z ++ mark m.CloseBrace ∷ [])) rest) back h))

  -- ---- every expression

  join_any : (at : ℕ) (parts : ExprTrees) (i rest : List Tok) → length i ≤ most + length rest → AreExprs parts → exprs_height parts ≤ r → FitEach i (expr_spelling (join at parts)) rest → R prefix i ≡ Ok ((join at parts, expr_height (join at parts)), rest)
  join_any at parts i rest few l low h =
      let back = sym (list_is parts) in
      let xs = list_of parts in
      by_on i rest at (lexeme.Mark m.OpenBrace) (exprs_spelling parts ++ mark m.CloseBrace ∷ []) h ∙
      subst (λ z. R (prefix_by (Some (lexeme.Mark m.OpenBrace))) i ≡ Ok ((join at z, expr_height (join at z)), rest)) (list_is parts)
      (join_complete most r sub ok at xs i rest few (exprs_are xs (subst AreExprs back l)) (subst (λ z. z ≤ r) (exprs_height_is xs) (subst (λ z. exprs_height z ≤ r) back low)) (subst (λ z. FitEach i (expr_spelling (join at z)) rest) back h))

  copies_any : (at : ℕ) (n : ExprTree) (parts : ExprTrees) (i rest : List Tok) → length i ≤ most + length rest → IsExpr n → AreExprs parts → expr_height n ≤ r → exprs_height parts ≤ r → FitEach i (expr_spelling (copies at n parts)) rest → R prefix i ≡ Ok ((copies at n parts, expr_height (copies at n parts)), rest)
  copies_any at n parts i rest few ln l low lows h =
      let back = sym (list_is parts) in
      let xs = list_of parts in
      by_on i rest at (lexeme.Mark m.OpenBrace) (expr_spelling n ++ mark m.OpenBrace ∷ (exprs_spelling parts ++ mark m.CloseBrace ∷ (mark m.CloseBrace ∷ []))) h ∙
      subst (λ z. R (prefix_by (Some (lexeme.Mark m.OpenBrace))) i ≡ Ok ((copies at n z, expr_height (copies at n z)), rest)) (list_is parts)
      (copies_complete most r sub ok at n xs i rest few ln (exprs_are xs (subst AreExprs back l)) low (subst (λ z. z ≤ r) (exprs_height_is xs) (subst (λ z. exprs_height z ≤ r) back lows)) (subst (λ z. FitEach i (expr_spelling (copies at n z)) rest) back h))

  -- a primary is read by its first token
  primary : r < most → (t : ExprTree) (i rest : List Tok) → length i ≤ most + length rest → IsExpr t → level t ≡ unary_level → expr_height t ≤ suc r → FitEach i (expr_spelling t) rest → binds (lexeme_at rest) < selection_level → R prefix i ≡ Ok ((t, expr_height t), rest)
  unfolding literal
  primary roomy (number at v width signed) [] rest few l k low h c = absurd h
  primary roomy (number at v width signed) (t ∷ i) rest few l k low h c = by_on (t ∷ i) rest at (lexeme.Literal v width signed) [] h ∙ ap (λ n. Ok ((number n v width signed, 1), i)) h.0.0 ∙ ap (λ z. Ok ((number at v width signed, 1), z)) h.1
  primary roomy (path at s names false) i rest few l k low h c = bare_prefix roomy (path at s names false) i rest few l refl low h c
  primary roomy (path at s names true) i rest few l k low h c = parens_prefix roomy (path at s names false) i rest few l refl low h c
  primary roomy (bit_select at base index false) i rest few l k low h c = bare_prefix roomy (bit_select at base index false) i rest few l refl low h c
  primary roomy (bit_select at base index true) i rest few l k low h c = parens_prefix roomy (bit_select at base index false) i rest few l refl low h c
  primary roomy (part_select at base first last false) i rest few l k low h c = bare_prefix roomy (part_select at base first last false) i rest few l refl low h c
  primary roomy (part_select at base first last true) i rest few l k low h c = parens_prefix roomy (part_select at base first last false) i rest few l refl low h c
  primary roomy (unary at op x) i rest few l k low h c = by_on i rest at (lexeme.Mark (unary_mark op)) (expr_spelling x) h ∙ by_operator op i ∙ ap (λ o. R (unary_by o) i) (unary_is op)
      ∙ unary_expr_complete most r sub ok op at x i rest few l.0 l.1 (omega (arith, low)) h (binds_gap (lexeme_at rest) c)
  primary roomy (binary at op a b) i rest few l k low h c = absurd (let p = precedence_low op in omega (arith, p, k))
  primary roomy (choice at a b d) i rest few l k low h c = absurd (omega (arith, k))
  primary roomy (inside at a set) i rest few l k low h c = absurd (omega (arith, k))
  primary roomy (join at parts) i rest few l k low h c = join_any at parts i rest few l (omega (arith, low)) h
  primary roomy (copies at n parts) i rest few l k low h c = copies_any at n parts i rest few l.0 l.1 (omega (arith, low)) (omega (arith, low)) h
  primary roomy (sign at s x) i rest few l k low h c = by_on i rest at (lexeme.System (system_name s)) (mark m.OpenParen ∷ (expr_spelling x ++ mark m.CloseParen ∷ [])) h ∙ sign_expr_complete most r sub ok s at x i rest few l (omega (arith, low)) h
  primary roomy (reduce at array op item body) i rest few l k low h c =
      let a = takes_parts i (expr_spelling array) (reduce_rest op item body) rest h in
      by_select i (array_first array i a.0 l.1 l.2 a.1) ∙ reduce_complete most r sub ok at array op item body i rest few l (omega (arith, low)) h
  primary roomy (paren at x) i rest few l k low h c = by_on i rest at (lexeme.Mark m.OpenParen) (expr_spelling x ++ mark m.CloseParen ∷ []) h ∙ paren_expr_complete most r sub ok at x i rest few l (omega (arith, low)) h

  first : r < most → (t : ExprTree) (least : ℕ) (i rest : List Tok) → length i ≤ most + length rest → IsExpr t → level t ≡ unary_level → expr_height t ≤ suc r → FitEach i (expr_spelling t) rest → binds (lexeme_at rest) < least_right (level t) → Reaches t least i rest
  first roomy t least i rest few l k low h c = reached t least i rest (begins t i rest l h).at k (primary roomy t i rest few l k low h (subst (λ z. binds (lexeme_at rest) < least_right z) k c))

  spine : r < most → (t : ExprTree) (least : ℕ) (i rest : List Tok) → length i ≤ most + length rest → IsExpr t → least ≤ level t → expr_height t ≤ suc r → FitEach i (expr_spelling t) rest → binds (lexeme_at rest) < least_right (level t) → Reaches t least i rest
  spine roomy (binary at op y z) least i rest few l a low h c =
      let k = connective.Binary op in
      let q = lexeme.Mark (binary_mark op) in
      let p = takes_parts i (expr_spelling y) (mark (binary_mark op) ∷ expr_spelling z) rest h in
      let e = lexeme_of p.0 rest q (expr_spelling z) p.2 in
      let is : binds (lexeme_at p.0) ≡ precedence op = ap binds e ∙ spelled_binds k in
      let group = binding_left (precedence op) (level y) l.3 in
      let a1 = takes_less i (expr_spelling y) p.0 p.1 in
      let z1 = takes_less p.0 (mark (binary_mark op) ∷ expr_spelling z) rest p.2 in
      let n = next_less p.0 in
      let reach = spine roomy y least i p.0 (omega (arith, few, z1)) l.1 (lower_left least (precedence op) (level y) a l.3) (omega (arith, low)) p.1 (omega (arith, is, group)) in
      further roomy least y (binary at op y z) k i p.0 (next p.0) rest reach e refl a group (omega (arith, low)) (omega arith) l.0 refl
      (binary_on_complete at op y z (next p.0) rest (omega (arith, few, a1, n)) l.0 l.2 l.4 (omega (arith, low)) (after_token p.0 rest q (expr_spelling z) p.2) c)
  spine roomy (choice at x y z) least i rest few l a low h c =
      let es = expr_spelling y ++ mark m.Colon ∷ expr_spelling z in
      let p = takes_parts i (expr_spelling x) (mark m.Question ∷ es) rest h in
      let e = lexeme_of p.0 rest (lexeme.Mark m.Question) es p.2 in
      let is : binds (lexeme_at p.0) ≡ 2 = ap binds e in
      let group = binding_left 2 (level x) l.4 in
      let a1 = takes_less i (expr_spelling x) p.0 p.1 in
      let z1 = takes_less p.0 (mark m.Question ∷ es) rest p.2 in
      let n = next_less p.0 in
      let reach = spine roomy x least i p.0 (omega (arith, few, z1)) l.1 (lower_left least 2 (level x) a l.4) (omega (arith, low)) p.1 (omega (arith, is, group)) in
      further roomy least x (choice at x y z) connective.Choice i p.0 (next p.0) rest reach e refl a group (omega (arith, low)) (omega arith) l.0 refl
      (choice_on_complete at x y z (next p.0) rest (omega (arith, few, a1, n)) l.0 l.2 l.3 l.5 (omega (arith, low)) (omega (arith, low)) (after_token p.0 rest (lexeme.Mark m.Question) es p.2) c)
  spine roomy (inside at x set) least i rest few l a low h c =
      let es = mark m.OpenBrace ∷ (ranges_spelling set ++ mark m.CloseBrace ∷ []) in
      let p = takes_parts i (expr_spelling x) (word w.Inside ∷ es) rest h in
      let e = lexeme_of p.0 rest (lexeme.Word w.Inside) es p.2 in
      let is : binds (lexeme_at p.0) ≡ 9 = ap binds e in
      let group = binding_left 9 (level x) l.3 in
      let a1 = takes_less i (expr_spelling x) p.0 p.1 in
      let z1 = takes_less p.0 (word w.Inside ∷ es) rest p.2 in
      let n = next_less p.0 in
      let reach = spine roomy x least i p.0 (omega (arith, few, z1)) l.1 (lower_left least 9 (level x) a l.3) (omega (arith, low)) p.1 (omega (arith, is, group)) in
      further roomy least x (inside at x set) connective.Inside i p.0 (next p.0) rest reach e refl a group (omega (arith, low)) (omega arith) l.0 refl
      (inside_on_any at x set (next p.0) rest (omega (arith, few, a1, n)) l.0 l.2 (omega (arith, low)) (after_token p.0 rest (lexeme.Word w.Inside) es p.2))
  spine roomy (number at v width signed) least i rest few l a low h c = first roomy (number at v width signed) least i rest few l refl low h c
  spine roomy (path at s names bare) least i rest few l a low h c = first roomy (path at s names bare) least i rest few l refl low h c
  spine roomy (bit_select at base index bare) least i rest few l a low h c = first roomy (bit_select at base index bare) least i rest few l refl low h c
  spine roomy (part_select at base first1 last bare) least i rest few l a low h c = first roomy (part_select at base first1 last bare) least i rest few l refl low h c
  spine roomy (unary at op x) least i rest few l a low h c = first roomy (unary at op x) least i rest few l refl low h c
  spine roomy (join at parts) least i rest few l a low h c = first roomy (join at parts) least i rest few l refl low h c
  spine roomy (copies at n parts) least i rest few l a low h c = first roomy (copies at n parts) least i rest few l refl low h c
  spine roomy (sign at s x) least i rest few l a low h c = first roomy (sign at s x) least i rest few l refl low h c
  spine roomy (reduce at array op item body) least i rest few l a low h c = first roomy (reduce at array op item body) least i rest few l refl low h c
  spine roomy (paren at x) least i rest few l a low h c = first roomy (paren at x) least i rest few l refl low h c

  expr_in_complete : r < most → (least : ℕ) → 1 ≤ least → IsComplete expr_spelling (IsAt least) expr_height most (suc r) (Before least) (R (expr_in least))
  expr_in_complete roomy least pos = record {
    at = λ t i rest few l low h c.
        let reach = spine roomy t least i rest few l.0 l.1 low h (least_low least (level t) (binds (lexeme_at rest)) l.1 c) in
        let p = fuel_left reach.fuel (expr_height t) r most reach.enough low roomy in
        reach.is ∙ ap (λ n. turns n (λ s2. R (climb_step (start t) least s2)) ((t, expr_height t), least_right (level t)) rest) p.1
        ∙ last_turn p.0 (start t) least (least_right (level t)) (t, expr_height t) rest c;
  }

pub expr_complete : (most r : ℕ) → r ≤ most → (least : ℕ) → 1 ≤ least → IsComplete expr_spelling (IsAt least) expr_height most r (Before least) (expr most r least)
unfolding node
expr_complete most zero roomy least pos = record { at = λ t i rest few l low h c. absurd (let p = height_pos t in omega (arith, p, low)) }
expr_complete most (suc r) roomy least pos = expr_in_complete most r (expr most r) (expr_complete most r (omega (arith, roomy))) (omega (arith, roomy)) least pos

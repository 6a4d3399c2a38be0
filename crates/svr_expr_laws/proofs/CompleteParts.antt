-- What the grammar has as a part of an expression is read there.
use Rattle.std.proofs.Common.{◌≡◌, ℕ, zero, suc, ◌+◌, ◌<◌, ◌≤◌, max, Bool, true, false, List, [], ◌∷◌, ◌++◌, length, Option, Some, Ok, refl, sym, ◌∙◌, ap, subst, arith, None}
use Rattle.svr_token.specs.declared.Lexeme.{Lexeme}
use Rattle.svr_token.specs.declared.Lexeme.TheVariants as lexeme
use Rattle.svr_token.specs.declared.Word.TheVariants as w
use Rattle.svr_token.specs.declared.Mark.{Mark}
use Rattle.svr_token.specs.declared.Mark.TheVariants as m
use Rattle.svr_token.specs.declared.NameKind.{NameKind}
use Rattle.svr_operator.specs.declared.UnOp.{UnOp}
use Rattle.svr_operator.specs.declared.Fold.{Fold}
use Rattle.svr_tree.specs.declared.expr.IteratorArgument.{IteratorArgument}
use Rattle.svr_tree.specs.declared.expr.IteratorArgument.TheVariants as iterator
use Rattle.svr_tree.specs.declared.expr.Scope.{Scope}
use Rattle.svr_tree.specs.declared.expr.Scope.TheVariants as scope
use Rattle.svr_tree.specs.Tokens.{Tok, Entry, FitEach, mark, listed, OneOrMore, Name, word}
use Rattle.svr_tree.specs.DeclGrammar.{greatest}
use Rattle.svr_tree.specs.Operators.{fold_name, unary_level, selection_level}
use Rattle.svr_tree.specs.ExprTree.{ExprTree, path, bit_select, part_select, unary, join, copies, sign, paren, RangeTree, one, span, BoundTree, value, dollar, exprs_of, reduce}
use Rattle.svr_tree.specs.ExprGrammar.{names_spelling, parens_spelling, system_name, expr_spelling, exprs_spelling, range_spelling, bound_spelling, level, start, IsPathAt, is_selectable, IsExpr, IsRange, IsBound, expr_height, exprs_height, range_height, bound_height, scope_spelling}
use Rattle.svr_reader.specs.Outcomes.{go, done, Parser, lexeme_at, entered, turned, turns, number_at}
use Rattle.svr_reader.specs.declared.fixed.Fixed.{Fixed}
use Rattle.svr_reader.specs.declared.fixed.Fixed.TheVariants as f
use Rattle.svr_reader.specs.Program.{pure, bind, peek, call, run, expect}
use Rattle.svr_reader.specs.Steps.{same_mark, is_fixed, sees, same_word}
use Rattle.svr_reader.specs.Lists.{WithHeight, listing_on}
use Rattle.svr_reader.proofs.Steps.{bind_is, takes_parts, takes_less, lexeme_of, lexeme_on, entered_is, expects, led_takes, led_no}
use Rattle.svr_reader.proofs.Layers.{IsComplete, complete_of}
use Rattle.svr_reader.proofs.Lists.{listing_complete, listing_on_complete}
use Rattle.svr_expr.specs.Connectives.{binds}
use Rattle.svr_expr.specs.ExprRules.{Rule, known_path, path_in, with_parens, parens_on, select_on, suffix_by, suffix_step, with_suffixes, path_expr, exprs, bound_by, bound, span_on, range_by, range, ranges, paren_expr, is_signed, sign_expr, copies_on, join_on, brace_expr, unary_expr, expr_starts, path_starts, prefix_by, owner, path_fold, body_on, called_by, argument_on, argument_by, fold_by, path_on_by, path_rest}
use Rattle.svr_expr_laws.proofs.Connectives.{no_dot, NotFold, no_fold}
use Rattle.svr_expr_laws.proofs.Trees.{height_pos, level_pos, exprs_spelling_is, exprs_height_is, parens, with_parens_spelling, with_parens_height, begins, expr_long, range_long, with_rest, body_rest, reduce_rest}
use Rattle.svr_expr_laws.proofs.Folds.{more_is_path, more_fold, more_owner}
use Rattle.svr_expr_laws.proofs.Names.{spelled_known, known_path_complete, names_known, path_last}
use Rattle.svr_expr_laws.proofs.SoundParts.{IsAt, Exprs}

-- tokens before which an expression of at least this level ends
abbrev pub Before : ℕ → Option Lexeme → Type 0
Before least q = binds q < least

-- tokens before which a list of expressions ends
abbrev pub EndsList : Option Lexeme → Type 0
EndsList q = (binds q < 1) × (is_fixed (f.Mark m.Comma) q ≡ false)

abbrev pub IsCompleteExpr : ℕ → ℕ → (ℕ → Parser (WithHeight ExprTree)) → Type 0
IsCompleteExpr most r sub = (least : ℕ) → 1 ≤ least → IsComplete expr_spelling (IsAt least) expr_height most r (Before least) (sub least)

-- ---- before a mark

pub before_mark : (k : Mark) → binds (Some (lexeme.Mark k)) ≡ 0 → (i rest : List Tok) (es : List Entry) → FitEach i (mark k ∷ es) rest → binds (lexeme_at i) < 1
before_mark k e i rest es h = let is : binds (lexeme_at i) ≡ 0 = ap binds (lexeme_of i rest (lexeme.Mark k) es h) ∙ e in omega (arith, is)

pub sees_none : (q : Fixed) (k : Mark) → is_fixed q (Some (lexeme.Mark k)) ≡ false → (i rest : List Tok) (es : List Entry) → FitEach i (mark k ∷ es) rest → sees q i ≡ false
sees_none q k e i rest es h = ap (is_fixed q) (lexeme_of i rest (lexeme.Mark k) es h) ∙ e

-- a part between two places
pub within : (most : ℕ) (i mid mid2 rest : List Tok) → length i ≤ most + length rest → length mid ≤ length i → length rest ≤ length mid2 → length mid ≤ most + length mid2
within most i mid mid2 rest few a z = omega (arith, few, a, z)

ends_close : (i rest : List Tok) (es : List Entry) → FitEach i (mark m.CloseBrace ∷ es) rest → EndsList (lexeme_at i)
unfolding same_mark
ends_close i rest es h = (before_mark m.CloseBrace refl i rest es h, sees_none (f.Mark m.Comma) m.CloseBrace refl i rest es h)

-- a path begins with a name or its scope
path_first : (at : ℕ) (s : Scope) (names : List ℕ) (bare : Bool) (i rest : List Tok) → IsPathAt at s names → FitEach i (expr_spelling (path at s names bare)) rest → path_starts (lexeme_at i) ≡ true
path_first at s [] bare i rest l h = absurd l
path_first at scope.Plain (n ∷ ns) bare [] rest l h = absurd h
path_first at scope.Plain (n ∷ ns) bare (t ∷ i) rest l h = ap (λ v. path_starts (Some v)) h.0.1.is
path_first at scope.Local (n ∷ ns) bare i rest l h = ap path_starts (lexeme_on i rest at (lexeme.Word w.Local) (mark m.DoubleColon ∷ (names_spelling (n ∷ ns) ++ parens_spelling bare)) h)
path_first at scope.This (n ∷ ns) bare i rest l h = ap path_starts (lexeme_on i rest at (lexeme.Word w.This) (mark m.Dot ∷ (names_spelling (n ∷ ns) ++ parens_spelling bare)) h)

pub selectable_first : (t : ExprTree) (i rest : List Tok) → IsExpr t → is_selectable t ≡ true → FitEach i (expr_spelling t) rest → path_starts (lexeme_at i) ≡ true
selectable_first (path at s names false) i rest l k h = path_first at s names false i rest l h
selectable_first (bit_select at base index false) i rest l k h = let p = takes_parts i (expr_spelling base) (mark m.OpenBracket ∷ (expr_spelling index ++ mark m.CloseBracket ∷ [])) rest h in selectable_first base i p.0 l.1 l.3 p.1
selectable_first (part_select at base first last false) i rest l k h = let p = takes_parts i (expr_spelling base) (mark m.OpenBracket ∷ (expr_spelling first ++ mark m.Colon ∷ (expr_spelling last ++ mark m.CloseBracket ∷ []))) rest h in selectable_first base i p.0 l.1 l.4 p.1
selectable_first _ i rest l k h = absurd (cc)

pub fuel_left : (n h : ℕ) (r most : ℕ) → most < n + h → h ≤ suc r → r < most → (q : ℕ) × (n ≡ suc q)
fuel_left zero h r most a b c = absurd (omega (arith, a, b, c))
fuel_left (suc q) h r most a b c = (q, refl)

-- a path ends before what the name of a reduction goes on with
abbrev pub Apart : ExprTree → Option Lexeme → Type 0
Apart (path at s names called) q = NotFold q
Apart _ q = Unit {0}

apart_bracket : (t : ExprTree) (q : Option Lexeme) → q ≡ Some (lexeme.Mark m.OpenBracket) → Apart t q
unfolding same_mark same_word
apart_bracket (path at s names called) q e = subst NotFold (sym e) (refl, refl)
apart_bracket _ q e = tt

apart_low : (t : ExprTree) (q : Option Lexeme) → binds q < selection_level → Apart t q
apart_low (path at s names called) q h = no_fold q h
apart_low _ q h = tt

module _ (most r : ℕ) (sub : ℕ → Parser (WithHeight ExprTree)) (ok : IsCompleteExpr most r sub) where
  abbrev R : {A : Type 0} → Rule A → Parser A
  R p = run most r sub p

  -- any expression, before a token that does not bind
  any_complete : IsComplete expr_spelling IsExpr expr_height most r (Before 1) (sub 1)
  any_complete = complete_of (ok 1 (omega arith)) (λ x h. (h, level_pos x)) (λ q h. h)

  -- ---- lists, bounds, ranges

  pub exprs_complete : IsComplete (listed expr_spelling) (OneOrMore IsExpr) (greatest expr_height) most r EndsList (R exprs)
  unfolding exprs
  exprs_complete = listing_complete most r sub (call 1) expr_spelling IsExpr expr_height r (Before 1) any_complete expr_long (omega arith) (λ q h. h.0) (λ q h. h.1)

  exprs_on_complete : (s : WithHeight Exprs) (xs : Exprs) (i rest : List Tok) → length i ≤ most + length rest → OneOrMore IsExpr xs → greatest expr_height xs ≤ r → FitEach i (listed expr_spelling xs) rest → EndsList (lexeme_at rest)
      → R (listing_on (call 1) s) i ≡ Ok ((s.0 ++ xs, max s.1 (greatest expr_height xs)), rest)
  exprs_on_complete s xs i rest few o low h c = listing_on_complete most r sub (call 1) expr_spelling IsExpr expr_height r (Before 1) any_complete expr_long (omega arith) s xs i rest few o low h c.0 c.1

  bound_by_start : (q : Option Lexeme) (i : List Tok) → expr_starts q ≡ true → R (bound_by q) i ≡ R (bind (call 1) (λ x. pure (value x.0, x.1))) i
  bound_by_start (Some (lexeme.Mark m.Dollar)) i s = absurd (cc)
  bound_by_start _ i s = refl

  range_by_start : (q : Option Lexeme) (i : List Tok) → expr_starts q ≡ true → R (range_by q) i ≡ R (bind (call 1) (λ x. pure (one x.0, x.1))) i
  range_by_start (Some (lexeme.Mark m.OpenBracket)) i s = absurd (cc)
  range_by_start _ i s = refl

  bound_complete : IsComplete bound_spelling IsBound bound_height most r (Before 1) (R bound)
  unfolding bound
  bound_complete = record { at = by }
    where
      by : (x : BoundTree) (i rest : List Tok) → length i ≤ most + length rest → IsBound x → bound_height x ≤ r → FitEach i (bound_spelling x) rest → Before 1 (lexeme_at rest) → R (bind peek bound_by) i ≡ Ok ((x, bound_height x), rest)
      by (value x) i rest few l low h c = bound_by_start (lexeme_at i) i (begins x i rest l h).first ∙ bind_is (sub 1 i) _ (x, expr_height x) rest _ (any_complete.at x i rest few l low h c) refl
      by dollar [] rest few l low h c = absurd h
      by dollar (t ∷ i) rest few l low h c = ap (λ q. R (bound_by (Some q)) (t ∷ i)) h.0 ∙ ap (λ v. Ok ((dollar, 0), v)) h.1

  pub range_complete : IsComplete range_spelling IsRange range_height most r (Before 1) (R range)
  unfolding range span_on
  range_complete = record { at = by }
    where
      by : (x : RangeTree) (i rest : List Tok) → length i ≤ most + length rest → IsRange x → range_height x ≤ r → FitEach i (range_spelling x) rest → Before 1 (lexeme_at rest) → R (bind peek range_by) i ≡ Ok ((x, range_height x), rest)
      by (one x) i rest few l low h c = range_by_start (lexeme_at i) i (begins x i rest l h).first ∙ bind_is (sub 1 i) _ (x, expr_height x) rest _ (any_complete.at x i rest few l low h c) refl
      by (span lo hi) [] rest few l low h c = absurd h
      by (span lo hi) (t ∷ i) rest few l low h c =
          let p = takes_parts i (bound_spelling lo) (mark m.Colon ∷ (bound_spelling hi ++ mark m.CloseBracket ∷ [])) rest h.1 in
          let q = takes_parts p.0 (mark m.Colon ∷ []) (bound_spelling hi ++ mark m.CloseBracket ∷ []) rest p.2 in
          let z = takes_parts q.0 (bound_spelling hi) (mark m.CloseBracket ∷ []) rest q.2 in
          let a1 = takes_less i (bound_spelling lo) p.0 p.1 in
          let a2 = takes_less p.0 (mark m.Colon ∷ []) q.0 q.1 in
          let z1 = takes_less p.0 (mark m.Colon ∷ (bound_spelling hi ++ mark m.CloseBracket ∷ [])) rest p.2 in
          let z2 = takes_less z.0 (mark m.CloseBracket ∷ []) rest z.2 in
          ap (λ k. R (range_by (Some k)) (t ∷ i)) h.0 ∙
          bind_is (R bound i) _ (lo, bound_height lo) p.0 _ (bound_complete.at lo i p.0 (omega (arith, few, z1)) l.0 (omega (arith, low)) p.1 (before_mark m.Colon refl p.0 rest _ p.2))
          (bind_is (R (expect (f.Mark m.Colon)) p.0) _ tt q.0 _ (expects most r sub (f.Mark m.Colon) p.0 q.0 q.1)
          (bind_is (R bound q.0) _ (hi, bound_height hi) z.0 _ (bound_complete.at hi q.0 z.0 (omega (arith, few, a1, a2, z2)) l.1 (omega (arith, low)) z.1 (before_mark m.CloseBracket refl z.0 rest [] z.2))
          (bind_is (R (expect (f.Mark m.CloseBracket)) z.0) _ tt rest _ (expects most r sub (f.Mark m.CloseBracket) z.0 rest z.2) refl)))

  pub ranges_complete : IsComplete (listed range_spelling) (OneOrMore IsRange) (greatest range_height) most r EndsList (R ranges)
  unfolding ranges
  ranges_complete = listing_complete most r sub range range_spelling IsRange range_height r (Before 1) range_complete range_long (omega arith) (λ q h. h.0) (λ q h. h.1)

  -- ---- unary operators, parentheses, signs

  pub unary_expr_complete : (op : UnOp) (at : ℕ) (x : ExprTree) (i rest : List Tok) → length i ≤ most + length rest → IsExpr x → 13 ≤ level x → expr_height x ≤ r → FitEach i (expr_spelling (unary at op x)) rest → binds (lexeme_at rest) < 13
      → R (unary_expr op) i ≡ Ok ((unary at op x, expr_height x + 1), rest)
  unfolding unary_expr
  unary_expr_complete op at x [] rest few l v low h c = absurd h
  unary_expr_complete op at x (t ∷ i) rest few l v low h c =
      let pos = height_pos x in
      bind_is (entered r 1 (t ∷ i)) _ t.at i _ (entered_is r 1 t i (omega (arith, pos, low)))
      (bind_is (sub unary_level i) _ (x, expr_height x) rest _ ((ok unary_level (omega arith)).at x i rest (omega (arith, few)) (l, v) low h.1 c) (ap (λ n. Ok ((unary n op x, expr_height x + 1), rest)) h.0.0))

  pub paren_expr_complete : (at : ℕ) (x : ExprTree) (i rest : List Tok) → length i ≤ most + length rest → IsExpr x → expr_height x ≤ r → FitEach i (expr_spelling (paren at x)) rest → R paren_expr i ≡ Ok ((paren at x, expr_height x + 1), rest)
  unfolding paren_expr
  paren_expr_complete at x [] rest few l low h = absurd h
  paren_expr_complete at x (t ∷ i) rest few l low h =
      let p = takes_parts i (expr_spelling x) (mark m.CloseParen ∷ []) rest h.1 in
      let pos = height_pos x in
      let less = takes_less p.0 (mark m.CloseParen ∷ []) rest p.2 in
      bind_is (entered r 1 (t ∷ i)) _ t.at i _ (entered_is r 1 t i (omega (arith, pos, low)))
      (bind_is (sub 1 i) _ (x, expr_height x) p.0 _ (any_complete.at x i p.0 (omega (arith, few, less)) l low p.1 (before_mark m.CloseParen refl p.0 rest [] p.2))
      (bind_is (R (expect (f.Mark m.CloseParen)) p.0) _ tt rest _ (expects most r sub (f.Mark m.CloseParen) p.0 rest p.2) (ap (λ n. Ok ((paren n x, expr_height x + 1), rest)) h.0.0)))

  sign_is : (s : Bool) → is_signed (system_name s) ≡ s
  sign_is true = refl
  sign_is false = refl

  pub sign_expr_complete : (s : Bool) (at : ℕ) (x : ExprTree) (i rest : List Tok) → length i ≤ most + length rest → IsExpr x → expr_height x ≤ r → FitEach i (expr_spelling (sign at s x)) rest → R (sign_expr (system_name s)) i ≡ Ok ((sign at s x, expr_height x + 1), rest)
  unfolding sign_expr
  sign_expr_complete s at x [] rest few l low h = absurd h
  sign_expr_complete s at x (t ∷ i) rest few l low h =
      let o = takes_parts i (mark m.OpenParen ∷ []) (expr_spelling x ++ mark m.CloseParen ∷ []) rest h.1 in
      let p = takes_parts o.0 (expr_spelling x) (mark m.CloseParen ∷ []) rest o.2 in
      let pos = height_pos x in
      let less = takes_less p.0 (mark m.CloseParen ∷ []) rest p.2 in
      let less2 = takes_less i (mark m.OpenParen ∷ []) o.0 o.1 in
      bind_is (entered r 1 (t ∷ i)) _ t.at i _ (entered_is r 1 t i (omega (arith, pos, low)))
      (bind_is (R (expect (f.Mark m.OpenParen)) i) _ tt o.0 _ (expects most r sub (f.Mark m.OpenParen) i o.0 o.1)
      (bind_is (sub 1 o.0) _ (x, expr_height x) p.0 _ (any_complete.at x o.0 p.0 (omega (arith, few, less, less2)) l low p.1 (before_mark m.CloseParen refl p.0 rest [] p.2))
      (bind_is (R (expect (f.Mark m.CloseParen)) p.0) _ tt rest _ (expects most r sub (f.Mark m.CloseParen) p.0 rest p.2)
      (ap (λ n. Ok ((sign n (is_signed (system_name s)) x, expr_height x + 1), rest)) h.0.0 ∙ ap (λ z. Ok ((sign at z x, expr_height x + 1), rest)) (sign_is s)))))

  -- ---- braces

  copies_on_complete : (at : ℕ) (n : ExprTree) (xs : Exprs) (i rest : List Tok) → length i ≤ most + length rest → OneOrMore IsExpr xs → greatest expr_height xs ≤ r → FitEach i (exprs_spelling (exprs_of xs) ++ mark m.CloseBrace ∷ (mark m.CloseBrace ∷ [])) rest
      → R (copies_on at (n, expr_height n)) i ≡ Ok ((copies at n (exprs_of xs), max (expr_height n) (exprs_height (exprs_of xs)) + 1), rest)
  unfolding copies_on
  copies_on_complete at n xs i rest few o low h =
      let p = takes_parts i (exprs_spelling (exprs_of xs)) (mark m.CloseBrace ∷ (mark m.CloseBrace ∷ [])) rest h in
      let q = takes_parts p.0 (mark m.CloseBrace ∷ []) (mark m.CloseBrace ∷ []) rest p.2 in
      let less = takes_less p.0 (mark m.CloseBrace ∷ (mark m.CloseBrace ∷ [])) rest p.2 in
      let takes : FitEach i (listed expr_spelling xs) p.0 = subst (λ es. FitEach i es p.0) (exprs_spelling_is xs) p.1 in
      bind_is (R exprs i) _ (xs, greatest expr_height xs) p.0 _ (exprs_complete.at xs i p.0 (omega (arith, few, less)) o low takes (ends_close p.0 rest (mark m.CloseBrace ∷ []) p.2))
      (bind_is (R (expect (f.Mark m.CloseBrace)) p.0) _ tt q.0 _ (expects most r sub (f.Mark m.CloseBrace) p.0 q.0 q.1)
      (bind_is (R (expect (f.Mark m.CloseBrace)) q.0) _ tt rest _ (expects most r sub (f.Mark m.CloseBrace) q.0 rest q.2)
      (ap (λ z. Ok ((copies at n (exprs_of xs), max (expr_height n) z + 1), rest)) (sym (exprs_height_is xs)))))

  pub copies_complete : (at : ℕ) (n : ExprTree) (xs : Exprs) (i rest : List Tok) → length i ≤ most + length rest → IsExpr n → OneOrMore IsExpr xs → expr_height n ≤ r → greatest expr_height xs ≤ r → FitEach i (expr_spelling (copies at n (exprs_of xs))) rest
      → R brace_expr i ≡ Ok ((copies at n (exprs_of xs), expr_height (copies at n (exprs_of xs))), rest)
  unfolding brace_expr
  copies_complete at n xs [] rest few l o low lows h = absurd h
  copies_complete at n xs (t ∷ i) rest few l o low lows h =
      let es = exprs_spelling (exprs_of xs) ++ mark m.CloseBrace ∷ (mark m.CloseBrace ∷ []) in
      let p = takes_parts i (expr_spelling n) (mark m.OpenBrace ∷ es) rest h.1 in
      let q = takes_parts p.0 (mark m.OpenBrace ∷ []) es rest p.2 in
      let pos = height_pos n in
      let a1 = takes_less i (expr_spelling n) p.0 p.1 in
      let a2 = takes_less p.0 (mark m.OpenBrace ∷ []) q.0 q.1 in
      let z = takes_less p.0 (mark m.OpenBrace ∷ es) rest p.2 in
      bind_is (entered r 1 (t ∷ i)) _ t.at i _ (entered_is r 1 t i (omega (arith, pos, low)))
      (bind_is (sub 1 i) _ (n, expr_height n) p.0 _ (any_complete.at n i p.0 (omega (arith, few, z)) l low p.1 (before_mark m.OpenBrace refl p.0 rest es p.2))
      (led_takes most r sub (f.Mark m.OpenBrace) _ _ p.0 q.0 q.1
      ∙ copies_on_complete t.at n xs q.0 rest (omega (arith, few, a1, a2)) o lows q.2 ∙ ap (λ v. Ok ((copies v n (exprs_of xs), max (expr_height n) (exprs_height (exprs_of xs)) + 1), rest)) h.0.0))

  join_on_complete : (at : ℕ) (xs : WithHeight Exprs) (i rest : List Tok) → FitEach i (mark m.CloseBrace ∷ []) rest → R (join_on at xs) i ≡ Ok ((join at (exprs_of xs.0), xs.1 + 1), rest)
  unfolding join_on
  join_on_complete at xs i rest h = bind_is (R (expect (f.Mark m.CloseBrace)) i) _ tt rest _ (expects most r sub (f.Mark m.CloseBrace) i rest h) refl

  pub join_complete : (at : ℕ) (xs : Exprs) (i rest : List Tok) → length i ≤ most + length rest → OneOrMore IsExpr xs → greatest expr_height xs ≤ r → FitEach i (expr_spelling (join at (exprs_of xs))) rest
      → R brace_expr i ≡ Ok ((join at (exprs_of xs), expr_height (join at (exprs_of xs))), rest)
  unfolding brace_expr same_mark
  join_complete at [] i rest few o low h = absurd o
  join_complete at (x ∷ xs) [] rest few o low h = absurd h
  join_complete at (x ∷ []) (t ∷ i) rest few o low h =
      let p = takes_parts i (expr_spelling x ++ []) (mark m.CloseBrace ∷ []) rest h.1 in
      let q = takes_parts i (expr_spelling x) [] p.0 p.1 in
      let takes : FitEach i (expr_spelling x) p.0 = subst (λ v. FitEach i (expr_spelling x) v) q.2 q.1 in
      let pos = height_pos x in
      let z = takes_less p.0 (mark m.CloseBrace ∷ []) rest p.2 in
      let high : expr_height x ≡ max (expr_height x) 0 = omega arith in
      bind_is (entered r 1 (t ∷ i)) _ t.at i _ (entered_is r 1 t i (omega (arith, pos, low)))
      (bind_is (sub 1 i) _ (x, expr_height x) p.0 _ (any_complete.at x i p.0 (omega (arith, few, z)) o.0 (omega (arith, low)) takes (before_mark m.CloseBrace refl p.0 rest [] p.2))
      (led_no most r sub (f.Mark m.OpenBrace) _ _ p.0 (sees_none (f.Mark m.OpenBrace) m.CloseBrace refl p.0 rest [] p.2)
      ∙ led_no most r sub (f.Mark m.Comma) _ _ p.0 (sees_none (f.Mark m.Comma) m.CloseBrace refl p.0 rest [] p.2)
      ∙ join_on_complete t.at (x ∷ [], expr_height x) p.0 rest p.2 ∙ ap (λ v. Ok ((join t.at (exprs_of (x ∷ [])), v + 1), rest)) high ∙ ap (λ v. Ok ((join v (exprs_of (x ∷ [])), max (expr_height x) 0 + 1), rest)) h.0.0))
  join_complete at (x ∷ y ∷ ys) (t ∷ i) rest few o low h =
      let es = exprs_spelling (exprs_of (y ∷ ys)) in
      let c = takes_parts i (expr_spelling x ++ mark m.Comma ∷ es) (mark m.CloseBrace ∷ []) rest h.1 in
      let p = takes_parts i (expr_spelling x) (mark m.Comma ∷ es) c.0 c.1 in
      let q = takes_parts p.0 (mark m.Comma ∷ []) es c.0 p.2 in
      let takes : FitEach q.0 (listed expr_spelling (y ∷ ys)) c.0 = subst (λ v. FitEach q.0 v c.0) (exprs_spelling_is (y ∷ ys)) q.2 in
      let pos = height_pos x in
      let z = takes_less c.0 (mark m.CloseBrace ∷ []) rest c.2 in
      let z1 = takes_less p.0 (mark m.Comma ∷ es) c.0 p.2 in
      let a1 = takes_less i (expr_spelling x) p.0 p.1 in
      let a2 = takes_less p.0 (mark m.Comma ∷ []) q.0 q.1 in
      let high : max (expr_height x) (greatest expr_height (y ∷ ys)) ≡ exprs_height (exprs_of (x ∷ y ∷ ys)) = ap (max (expr_height x)) (sym (exprs_height_is (y ∷ ys))) in
      bind_is (entered r 1 (t ∷ i)) _ t.at i _ (entered_is r 1 t i (omega (arith, pos, low)))
      (bind_is (sub 1 i) _ (x, expr_height x) p.0 _ (any_complete.at x i p.0 (omega (arith, few, z, z1)) o.0 (omega (arith, low)) p.1 (before_mark m.Comma refl p.0 c.0 es p.2))
      (led_no most r sub (f.Mark m.OpenBrace) _ _ p.0 (sees_none (f.Mark m.OpenBrace) m.Comma refl p.0 c.0 es p.2)
      ∙ led_takes most r sub (f.Mark m.Comma) _ _ p.0 q.0 q.1
      ∙ bind_is (R (listing_on (call 1) (x ∷ [], expr_height x)) q.0) _ (x ∷ y ∷ ys, max (expr_height x) (greatest expr_height (y ∷ ys))) c.0 _
      (exprs_on_complete (x ∷ [], expr_height x) (y ∷ ys) q.0 c.0 (omega (arith, few, z, a1, a2)) o.1 (omega (arith, low)) takes (ends_close c.0 rest [] c.2))
      (join_on_complete t.at (x ∷ y ∷ ys, max (expr_height x) (greatest expr_height (y ∷ ys))) c.0 rest c.2
      ∙ ap (λ v. Ok ((join t.at (exprs_of (x ∷ y ∷ ys)), v + 1), rest)) high ∙ ap (λ v. Ok ((join v (exprs_of (x ∷ y ∷ ys)), exprs_height (exprs_of (x ∷ y ∷ ys)) + 1), rest)) h.0.0)))

  -- ---- paths and their selects

  pub path_in_complete : (at : ℕ) (s : Scope) (names : List ℕ) (i rest : List Tok) → length i ≤ most + length rest → IsPathAt at s names → FitEach i (expr_spelling (path at s names false)) rest → sees (f.Mark m.Dot) rest ≡ false
      → R path_in i ≡ Ok ((path at s names false, 1), rest)
  unfolding path_in
  path_in_complete at s names i rest few l h c = let d = spelled_known at s names i rest l h in
      bind_is (R known_path i) _ (path at s names false, d.0) rest _ (known_path_complete most r sub at s names d.0 i rest few l d.1 c) refl

  -- ---- what stands behind a path

  by_token : (at : ℕ) (p : ExprTree) (op : Fold) (q : Option Lexeme) (i : List Tok) → NotFold q → R (fold_by at p op q) i ≡ R (with_suffixes at (p, 1)) i
  unfolding same_mark same_word
  by_token at p op (Some (lexeme.Word w.With)) i n = absurd (let e : true ≡ false = n.0 in cc)
  by_token at p op (Some (lexeme.Mark m.OpenParen)) i n = absurd (let e : true ≡ false = n.1 in cc)
  by_token at p op _ i n = refl

  rest_plain : (at : ℕ) (p : ExprTree × NameKind) (i : List Tok) → NotFold (lexeme_at i) → R (path_rest at p) i ≡ R (with_suffixes at (p.0, 1)) i
  unfolding path_rest
  rest_plain at p i n = by (path_fold p)
    where
      by : (o : Option Fold) → R (path_on_by at p.0 o) i ≡ R (with_suffixes at (p.0, 1)) i
      by None = refl
      by (Some op) = by_token at p.0 op (lexeme_at i) i n

  -- ---- array reductions

  body_complete : (at : ℕ) (array : ExprTree) (op : Fold) (item : IteratorArgument) (body : ExprTree) (i rest : List Tok) → length i ≤ most + length rest → IsExpr body → expr_height body ≤ r → FitEach i (with_rest body) rest
      → R (body_on at array op item) i ≡ Ok ((reduce at array op item body, max 1 (expr_height body) + 1), rest)
  unfolding body_on
  body_complete at array op item body [] rest few l low h = absurd h
  body_complete at array op item body (t ∷ i) rest few l low h =
      let o = takes_parts i (mark m.OpenParen ∷ []) (expr_spelling body ++ mark m.CloseParen ∷ []) rest h.1 in
      let p = takes_parts o.0 (expr_spelling body) (mark m.CloseParen ∷ []) rest o.2 in
      let pos = height_pos body in
      let less = takes_less p.0 (mark m.CloseParen ∷ []) rest p.2 in
      let less2 = takes_less i (mark m.OpenParen ∷ []) o.0 o.1 in
      bind_is (entered r 1 (t ∷ i)) _ t.at i _ (entered_is r 1 t i (omega (arith, pos, low)))
      (bind_is (R (expect (f.Mark m.OpenParen)) i) _ tt o.0 _ (expects most r sub (f.Mark m.OpenParen) i o.0 o.1)
      (bind_is (sub 1 o.0) _ (body, expr_height body) p.0 _ (any_complete.at body o.0 p.0 (omega (arith, few, less, less2)) l low p.1 (before_mark m.CloseParen refl p.0 rest [] p.2))
      (bind_is (R (expect (f.Mark m.CloseParen)) p.0) _ tt rest _ (expects most r sub (f.Mark m.CloseParen) p.0 rest p.2) refl)))

  argument_complete : (at : ℕ) (p : ExprTree) (op : Fold) (n : ℕ) (body : ExprTree) (v : Tok) (i rest : List Tok) → v.at ≡ n → length i ≤ most + length rest → IsExpr body → expr_height body ≤ r → FitEach i (mark m.CloseParen ∷ with_rest body) rest
      → R (argument_on at p op) (v ∷ i) ≡ Ok ((reduce at (owner p) op (iterator.Named n) body, max 1 (expr_height body) + 1), rest)
  unfolding argument_on
  argument_complete at p op n body v i rest num few l low h =
      let a = takes_parts i (mark m.CloseParen ∷ []) (with_rest body) rest h in
      let b = takes_parts a.0 (word w.With ∷ []) (mark m.OpenParen ∷ (expr_spelling body ++ mark m.CloseParen ∷ [])) rest a.2 in
      let c = takes_parts b.0 (mark m.OpenParen ∷ []) (expr_spelling body ++ mark m.CloseParen ∷ []) rest b.2 in
      let d = takes_parts c.0 (expr_spelling body) (mark m.CloseParen ∷ []) rest c.2 in
      let pos = height_pos body in
      let less = takes_less d.0 (mark m.CloseParen ∷ []) rest d.2 in
      let less1 = takes_less i (mark m.CloseParen ∷ []) a.0 a.1 in
      let less2 = takes_less a.0 (word w.With ∷ []) b.0 b.1 in
      let less3 = takes_less b.0 (mark m.OpenParen ∷ []) c.0 c.1 in
      bind_is (entered r 1 (v ∷ i)) _ v.at i _ (entered_is r 1 v i (omega (arith, pos, low)))
      (bind_is (R (expect (f.Mark m.CloseParen)) i) _ tt a.0 _ (expects most r sub (f.Mark m.CloseParen) i a.0 a.1)
      (bind_is (R (expect (f.Word w.With)) a.0) _ tt b.0 _ (expects most r sub (f.Word w.With) a.0 b.0 b.1)
      (bind_is (R (expect (f.Mark m.OpenParen)) b.0) _ tt c.0 _ (expects most r sub (f.Mark m.OpenParen) b.0 c.0 c.1)
      (bind_is (sub 1 c.0) _ (body, expr_height body) d.0 _ (any_complete.at body c.0 d.0 (omega (arith, few, less, less1, less2, less3)) l low d.1 (before_mark m.CloseParen refl d.0 rest [] d.2))
      (bind_is (R (expect (f.Mark m.CloseParen)) d.0) _ tt rest _ (expects most r sub (f.Mark m.CloseParen) d.0 rest d.2) (ap (λ z. Ok ((reduce at (owner p) op (iterator.Named z) body, max 1 (expr_height body) + 1), rest)) num))))))

  by_item : (at : ℕ) (p : ExprTree) (op : Fold) (item : IteratorArgument) (body : ExprTree) (i rest : List Tok) → length i ≤ most + length rest → IsExpr body → expr_height body ≤ r → FitEach i (body_rest item body) rest
      → R (bind peek (fold_by at p op)) i ≡ Ok ((reduce at (owner p) op item body, max 1 (expr_height body) + 1), rest)
  by_item at p op iterator.Absent body i rest few l low h =
      ap (λ q. R (fold_by at p op q) i) (lexeme_of i rest (lexeme.Word w.With) (mark m.OpenParen ∷ (expr_spelling body ++ mark m.CloseParen ∷ [])) h) ∙ body_complete at (owner p) op iterator.Absent body i rest few l low h
  by_item at p op iterator.Empty body [] rest few l low h = absurd h
  by_item at p op iterator.Empty body (u ∷ i) rest few l low h =
      let a = takes_parts i (mark m.CloseParen ∷ []) (with_rest body) rest h.1 in
      let less = takes_less i (mark m.CloseParen ∷ []) a.0 a.1 in
      ap (λ q. R (fold_by at p op (Some q)) (u ∷ i)) h.0
      ∙ ap (λ q. R (argument_by at p op q) i) (lexeme_of i rest (lexeme.Mark m.CloseParen) (with_rest body) h.1)
      ∙ bind_is (R (expect (f.Mark m.CloseParen)) i) _ tt a.0 _ (expects most r sub (f.Mark m.CloseParen) i a.0 a.1)
      (ap (λ q. R (called_by at p op q) a.0) (lexeme_of a.0 rest (lexeme.Word w.With) (mark m.OpenParen ∷ (expr_spelling body ++ mark m.CloseParen ∷ [])) a.2) ∙ body_complete at (owner p) op iterator.Empty body a.0 rest (omega (arith, few, less)) l low a.2)
  by_item at p op (iterator.Named n) body [] rest few l low h = absurd h
  by_item at p op (iterator.Named n) body (u ∷ []) rest few l low h = absurd h.1
  by_item at p op (iterator.Named n) body (u ∷ (v ∷ i)) rest few l low h =
      ap (λ q. R (fold_by at p op (Some q)) (u ∷ (v ∷ i))) h.0
      ∙ ap (λ q. R (argument_by at p op (Some q)) (v ∷ i)) h.1.0.1.is
      ∙ argument_complete at p op n body v i rest h.1.0.0 (omega (arith, few)) l low h.1.1

  rest_reduced : (at : ℕ) (p : ExprTree) (k : NameKind) (op : Fold) (item : IteratorArgument) (body : ExprTree) (i rest : List Tok) → length i ≤ most + length rest → IsExpr body → expr_height body ≤ r → path_fold (p, k) ≡ Some op → FitEach i (body_rest item body) rest
      → R (path_rest at (p, k)) i ≡ Ok ((reduce at (owner p) op item body, max 1 (expr_height body) + 1), rest)
  unfolding path_rest
  rest_reduced at p k op item body i rest few l low e h = ap (λ o. R (path_on_by at p o) i) e ∙ by_item at p op item body i rest few l low h

  no_dot_body : (item : IteratorArgument) (body : ExprTree) (i rest : List Tok) → FitEach i (body_rest item body) rest → sees (f.Mark m.Dot) i ≡ false
  unfolding same_mark
  no_dot_body iterator.Absent body i rest h = ap (is_fixed (f.Mark m.Dot)) (lexeme_of i rest (lexeme.Word w.With) (mark m.OpenParen ∷ (expr_spelling body ++ mark m.CloseParen ∷ [])) h)
  no_dot_body iterator.Empty body i rest h = sees_none (f.Mark m.Dot) m.OpenParen refl i rest (mark m.CloseParen ∷ with_rest body) h
  no_dot_body (iterator.Named n) body i rest h = sees_none (f.Mark m.Dot) m.OpenParen refl i rest (Name n ∷ (mark m.CloseParen ∷ with_rest body)) h

  pub reduce_complete : (at : ℕ) (array : ExprTree) (op : Fold) (item : IteratorArgument) (body : ExprTree) (i rest : List Tok) → length i ≤ most + length rest → IsExpr (reduce at array op item body) → expr_height body ≤ r → FitEach i (expr_spelling (reduce at array op item body)) rest
      → R path_expr i ≡ Ok ((reduce at array op item body, expr_height (reduce at array op item body)), rest)
  unfolding path_expr
  reduce_complete at (path at2 s [] false) op item body i rest few l low h = absurd l.1
  reduce_complete at (path at2 s (n ∷ ns) false) op item body i rest few l low h =
      let b = path_last at2 s n ns (fold_name op) (body_rest item body) i rest h in
      let a = takes_parts i (expr_spelling (path at2 s (n ∷ ns) false)) (reduce_rest op item body) rest h in
      let p2 = path at2 s ((n ∷ ns) ++ b.number ∷ []) false in
      let begin : number_at i ≡ at = (begins (path at2 s (n ∷ ns) false) i a.0 l.1 a.1).at ∙ sym l.0 in
      let fewer = takes_less b.mid (body_rest item body) rest b.others in
      let shorter = takes_less i (scope_spelling at2 s ++ names_known ((n ∷ ns) ++ b.number ∷ []) (fold_name op)) b.mid b.names in
      bind_is (R known_path i) _ (p2, fold_name op) b.mid _
      (known_path_complete most r sub at2 s ((n ∷ ns) ++ b.number ∷ []) (fold_name op) i b.mid (omega (arith, few, fewer)) (more_is_path at2 s (n ∷ ns) b.number l.1) b.names (no_dot_body item body b.mid rest b.others))
      (rest_reduced (number_at i) p2 (fold_name op) op item body b.mid rest (omega (arith, few, shorter)) l.3 low (more_fold at2 s n ns b.number op) b.others
      ∙ ap (λ z. Ok ((reduce (number_at i) z op item body, max 1 (expr_height body) + 1), rest)) (more_owner at2 s (n ∷ ns) b.number)
      ∙ ap (λ z. Ok ((reduce z (path at2 s (n ∷ ns) false) op item body, max 1 (expr_height body) + 1), rest)) begin)
  reduce_complete at _ op item body i rest few l low h = absurd (let no = l.2 in cc)

  -- the way to a selected path: the path, and the turns that are left
  pub record Suffixed (t : ExprTree) (i rest : List Tok) : Type 0 where
    pub fuel : ℕ
    pub enough : most < fuel + expr_height t
    pub is : R path_expr i ≡ turns fuel (λ s. R (suffix_step (start t) s)) (t, expr_height t) rest

  select_turn : (at n : ℕ) (x : WithHeight ExprTree) (i : List Tok) (y : WithHeight ExprTree) (j : List Tok) → lexeme_at i ≡ Some (lexeme.Mark m.OpenBracket) → R (select_on at x) i ≡ Ok (y, j)
      → turns (suc n) (λ s. R (suffix_step at s)) x i ≡ turns n (λ s. R (suffix_step at s)) y j
  unfolding suffix_step
  select_turn at n x i y j k h = bind_is (R (suffix_step at x) i) (turned (turns n (λ s. R (suffix_step at s)))) (go y) j _ (ap (λ q. R (suffix_by at x q) i) k ∙ bind_is (R (select_on at x) i) _ y j _ h refl) refl

  bit_complete : (base index : ExprTree) (i rest : List Tok) → length i ≤ most + length rest → IsExpr index → expr_height base ≤ r → expr_height index ≤ r → FitEach i (mark m.OpenBracket ∷ (expr_spelling index ++ mark m.CloseBracket ∷ [])) rest
      → R (select_on (start base) (base, expr_height base)) i ≡ Ok ((bit_select (start base) base index false, max (expr_height base) (expr_height index) + 1), rest)
  unfolding select_on same_mark
  bit_complete base index [] rest few l low low2 h = absurd h
  bit_complete base index (t ∷ i) rest few l low low2 h =
      let p = takes_parts i (expr_spelling index) (mark m.CloseBracket ∷ []) rest h.1 in
      let z = takes_less p.0 (mark m.CloseBracket ∷ []) rest p.2 in
      bind_is (entered r (expr_height base) (t ∷ i)) _ t.at i _ (entered_is r (expr_height base) t i low)
      (bind_is (sub 1 i) _ (index, expr_height index) p.0 _ (any_complete.at index i p.0 (omega (arith, few, z)) l low2 p.1 (before_mark m.CloseBracket refl p.0 rest [] p.2))
      (led_no most r sub (f.Mark m.Colon) _ _ p.0 (sees_none (f.Mark m.Colon) m.CloseBracket refl p.0 rest [] p.2)
      ∙ bind_is (R (expect (f.Mark m.CloseBracket)) p.0) _ tt rest _ (expects most r sub (f.Mark m.CloseBracket) p.0 rest p.2) refl))

  part_complete : (base first last : ExprTree) (i rest : List Tok) → length i ≤ most + length rest → IsExpr first → IsExpr last → expr_height base ≤ r → expr_height first ≤ r → expr_height last ≤ r
      → FitEach i (mark m.OpenBracket ∷ (expr_spelling first ++ mark m.Colon ∷ (expr_spelling last ++ mark m.CloseBracket ∷ []))) rest
      → R (select_on (start base) (base, expr_height base)) i ≡ Ok ((part_select (start base) base first last false, max (max (expr_height base) (expr_height first)) (expr_height last) + 1), rest)
  unfolding select_on
  part_complete base first last [] rest few l l2 low low2 low3 h = absurd h
  part_complete base first last (t ∷ i) rest few l l2 low low2 low3 h =
      let es = expr_spelling last ++ mark m.CloseBracket ∷ [] in
      let p = takes_parts i (expr_spelling first) (mark m.Colon ∷ es) rest h.1 in
      let q = takes_parts p.0 (mark m.Colon ∷ []) es rest p.2 in
      let u = takes_parts q.0 (expr_spelling last) (mark m.CloseBracket ∷ []) rest q.2 in
      let a1 = takes_less i (expr_spelling first) p.0 p.1 in
      let a2 = takes_less p.0 (mark m.Colon ∷ []) q.0 q.1 in
      let z1 = takes_less p.0 (mark m.Colon ∷ es) rest p.2 in
      let z2 = takes_less u.0 (mark m.CloseBracket ∷ []) rest u.2 in
      bind_is (entered r (expr_height base) (t ∷ i)) _ t.at i _ (entered_is r (expr_height base) t i low)
      (bind_is (sub 1 i) _ (first, expr_height first) p.0 _ (any_complete.at first i p.0 (omega (arith, few, z1)) l low2 p.1 (before_mark m.Colon refl p.0 rest es p.2))
      (led_takes most r sub (f.Mark m.Colon) _ _ p.0 q.0 q.1
      ∙ bind_is (sub 1 q.0) _ (last, expr_height last) u.0 _ (any_complete.at last q.0 u.0 (omega (arith, few, a1, a2, z2)) l2 low3 u.1 (before_mark m.CloseBracket refl u.0 rest [] u.2))
      (bind_is (R (expect (f.Mark m.CloseBracket)) u.0) _ tt rest _ (expects most r sub (f.Mark m.CloseBracket) u.0 rest u.2) refl)))

  -- one select further
  one_select : r < most → (base t : ExprTree) (i mid rest : List Tok) → Suffixed base i mid → lexeme_at mid ≡ Some (lexeme.Mark m.OpenBracket) → expr_height base ≤ r → suc (expr_height base) ≤ expr_height t → start t ≡ start base
      → R (select_on (start base) (base, expr_height base)) mid ≡ Ok ((t, expr_height t), rest) → Suffixed t i rest
  one_select roomy base t i mid rest d k low taller s h = let p = fuel_left d.fuel (expr_height base) r most d.enough (omega (arith, low)) roomy in record {
    fuel = p.0;
    enough = omega (arith, p.1, d.enough, taller);
    is = d.is ∙ ap (λ n. turns n (λ s2. R (suffix_step (start base) s2)) (base, expr_height base) mid) p.1
        ∙ select_turn (start base) p.0 (base, expr_height base) mid (t, expr_height t) rest k h
        ∙ ap (λ v. turns p.0 (λ s2. R (suffix_step v s2)) (t, expr_height t) rest) (sym s);
  }

  no_dot_mark : (k : Mark) → is_fixed (f.Mark m.Dot) (Some (lexeme.Mark k)) ≡ false → (i rest : List Tok) (es : List Entry) → FitEach i (mark k ∷ es) rest → sees (f.Mark m.Dot) i ≡ false
  no_dot_mark k e i rest es h = sees_none (f.Mark m.Dot) k e i rest es h

  pub suffixed : r < most → (t : ExprTree) (i rest : List Tok) → length i ≤ most + length rest → IsExpr t → is_selectable t ≡ true → expr_height t ≤ suc r → FitEach i (expr_spelling t) rest → sees (f.Mark m.Dot) rest ≡ false → Apart t (lexeme_at rest) → Suffixed t i rest
  unfolding path_expr with_suffixes same_mark
  suffixed roomy (path at s names false) i rest few l k low h c n = record {
    fuel = most;
    enough = omega arith;
    is = let d = spelled_known at s names i rest l h in
        bind_is (R known_path i) _ (path at s names false, d.0) rest _ (known_path_complete most r sub at s names d.0 i rest few l d.1 c)
        (rest_plain (number_at i) (path at s names false, d.0) rest n ∙ ap (λ v. turns most (λ s2. R (suffix_step v s2)) (path at s names false, 1) rest) (begins (path at s names false) i rest l h).at);
  }
  suffixed roomy (bit_select at base index false) i rest few l k low h c n =
      let es = expr_spelling index ++ mark m.CloseBracket ∷ [] in
      let p = takes_parts i (expr_spelling base) (mark m.OpenBracket ∷ es) rest h in
      let z = takes_less p.0 (mark m.OpenBracket ∷ es) rest p.2 in
      let a1 = takes_less i (expr_spelling base) p.0 p.1 in
      let d = suffixed roomy base i p.0 (omega (arith, few, z)) l.1 l.3 (omega (arith, low)) p.1 (no_dot_mark m.OpenBracket refl p.0 rest es p.2) (apart_bracket base (lexeme_at p.0) (lexeme_of p.0 rest (lexeme.Mark m.OpenBracket) es p.2)) in
      one_select roomy base (bit_select at base index false) i p.0 rest d (lexeme_of p.0 rest (lexeme.Mark m.OpenBracket) es p.2) (omega (arith, low)) (omega arith) l.0
      (bit_complete base index p.0 rest (omega (arith, few, a1)) l.2 (omega (arith, low)) (omega (arith, low)) p.2 ∙ ap (λ v. Ok ((bit_select v base index false, max (expr_height base) (expr_height index) + 1), rest)) (sym l.0))
  suffixed roomy (part_select at base first last false) i rest few l k low h c n =
      let es = expr_spelling first ++ mark m.Colon ∷ (expr_spelling last ++ mark m.CloseBracket ∷ []) in
      let p = takes_parts i (expr_spelling base) (mark m.OpenBracket ∷ es) rest h in
      let z = takes_less p.0 (mark m.OpenBracket ∷ es) rest p.2 in
      let a1 = takes_less i (expr_spelling base) p.0 p.1 in
      let d = suffixed roomy base i p.0 (omega (arith, few, z)) l.1 l.4 (omega (arith, low)) p.1 (no_dot_mark m.OpenBracket refl p.0 rest es p.2) (apart_bracket base (lexeme_at p.0) (lexeme_of p.0 rest (lexeme.Mark m.OpenBracket) es p.2)) in
      one_select roomy base (part_select at base first last false) i p.0 rest d (lexeme_of p.0 rest (lexeme.Mark m.OpenBracket) es p.2) (omega (arith, low)) (omega arith) l.0
      (part_complete base first last p.0 rest (omega (arith, few, a1)) l.2 l.3 (omega (arith, low)) (omega (arith, low)) (omega (arith, low)) p.2
      ∙ ap (λ v. Ok ((part_select v base first last false, max (max (expr_height base) (expr_height first)) (expr_height last) + 1), rest)) (sym l.0))
  suffixed roomy _ i rest few l k low h c n = absurd (cc)

  suffix_stops : (at : ℕ) (x : WithHeight ExprTree) (q : Option Lexeme) (i : List Tok) → binds q < selection_level → R (suffix_by at x q) i ≡ Ok (done x, i)
  suffix_stops at x (Some (lexeme.Mark m.OpenBracket)) i h = absurd (omega (arith, h))
  suffix_stops at x (Some (lexeme.Mark m.OpenParen)) i h = absurd (omega (arith, h))
  suffix_stops at x _ i h = refl

  last_turn : (at n : ℕ) (x y : WithHeight ExprTree) (i j : List Tok) → R (suffix_step at x) i ≡ Ok (done y, j) → turns (suc n) (λ s. R (suffix_step at s)) x i ≡ Ok (y, j)
  last_turn at n x y i j h = bind_is (R (suffix_step at x) i) (turned (turns n (λ s. R (suffix_step at s)))) (done y) j _ h refl

  -- a path with selects, and no `()`
  pub bare_complete : r < most → (t : ExprTree) (i rest : List Tok) → length i ≤ most + length rest → IsExpr t → is_selectable t ≡ true → expr_height t ≤ suc r → FitEach i (expr_spelling t) rest → binds (lexeme_at rest) < selection_level
      → R path_expr i ≡ Ok ((t, expr_height t), rest)
  unfolding suffix_step
  bare_complete roomy t i rest few l k low h c =
      let d = suffixed roomy t i rest few l k low h (no_dot (lexeme_at rest) c) (apart_low t (lexeme_at rest) c) in
      let p = fuel_left d.fuel (expr_height t) r most d.enough low roomy in
      d.is ∙ ap (λ n. turns n (λ s2. R (suffix_step (start t) s2)) (t, expr_height t) rest) p.1 ∙ last_turn (start t) p.0 (t, expr_height t) (t, expr_height t) rest rest (suffix_stops (start t) (t, expr_height t) (lexeme_at rest) rest c)

  parens_turn : (at : ℕ) (t : ExprTree) (mid rest : List Tok) → FitEach mid parens rest → R (suffix_step at (t, expr_height t)) mid ≡ Ok (done (with_parens t, expr_height t), rest)
  unfolding suffix_step parens_on
  parens_turn at t [] rest h = absurd h
  parens_turn at t (u ∷ mid) rest h = ap (λ q. R (suffix_by at (t, expr_height t) (Some q)) (u ∷ mid)) h.0 ∙
      bind_is (R (parens_on (t, expr_height t)) (u ∷ mid)) _ (with_parens t, expr_height t) rest _ (bind_is (R (expect (f.Mark m.CloseParen)) mid) _ tt rest _ (expects most r sub (f.Mark m.CloseParen) mid rest h.1) refl) refl

  -- the same with `()`, behind a select
  select_parens : r < most → (t : ExprTree) → ((q : Option Lexeme) → Apart t q) → (i rest : List Tok) → length i ≤ most + length rest → IsExpr t → is_selectable t ≡ true → expr_height t ≤ suc r → FitEach i (expr_spelling (with_parens t)) rest
      → R path_expr i ≡ Ok ((with_parens t, expr_height (with_parens t)), rest)
  unfolding same_mark
  select_parens roomy t apart i rest few l k low h =
      let p = takes_parts i (expr_spelling t) parens rest (subst (λ es. FitEach i es rest) (with_parens_spelling t k) h) in
      let z = takes_less p.0 parens rest p.2 in
      let d = suffixed roomy t i p.0 (omega (arith, few, z)) l k low p.1 (no_dot_mark m.OpenParen refl p.0 rest (mark m.CloseParen ∷ []) p.2) (apart (lexeme_at p.0)) in
      let u = fuel_left d.fuel (expr_height t) r most d.enough low roomy in
      d.is ∙ ap (λ n. turns n (λ s2. R (suffix_step (start t) s2)) (t, expr_height t) p.0) u.1 ∙ last_turn (start t) u.0 (t, expr_height t) (with_parens t, expr_height t) p.0 rest (parens_turn (start t) t p.0 rest p.2)
      ∙ ap (λ v. Ok ((with_parens t, v), rest)) (sym (with_parens_height t))

  called_stops : (at : ℕ) (p : ExprTree) (op : Fold) (q : Option Lexeme) (i : List Tok) → NotFold q → R (called_by at p op q) i ≡ Ok ((with_parens p, 1), i)
  unfolding same_word
  called_stops at p op (Some (lexeme.Word w.With)) i n = absurd (let e : true ≡ false = n.0 in cc)
  called_stops at p op _ i n = refl

  -- and behind a path
  rest_called : r < most → (at at2 : ℕ) (s : Scope) (names : List ℕ) (k : NameKind) (i rest : List Tok) → FitEach i parens rest → NotFold (lexeme_at rest) → R (path_rest at (path at2 s names false, k)) i ≡ Ok ((path at2 s names true, 1), rest)
  unfolding path_rest with_suffixes
  rest_called roomy at at2 s names k [] rest h n = absurd h
  rest_called roomy at at2 s names k (u ∷ i) rest h n = by (path_fold (path at2 s names false, k))
    where
      by : (o : Option Fold) → R (path_on_by at (path at2 s names false) o) (u ∷ i) ≡ Ok ((path at2 s names true, 1), rest)
      by None =
          let full = fuel_left most 1 r most (omega arith) (omega arith) roomy in
          ap (λ z. turns z (λ s2. R (suffix_step at s2)) (path at2 s names false, 1) (u ∷ i)) full.1 ∙ last_turn at full.0 (path at2 s names false, 1) (path at2 s names true, 1) (u ∷ i) rest (parens_turn at (path at2 s names false) (u ∷ i) rest h)
      by (Some op) =
          ap (λ q. R (fold_by at (path at2 s names false) op (Some q)) (u ∷ i)) h.0
          ∙ ap (λ q. R (argument_by at (path at2 s names false) op q) i) (lexeme_of i rest (lexeme.Mark m.CloseParen) [] h.1)
          ∙ bind_is (R (expect (f.Mark m.CloseParen)) i) _ tt rest _ (expects most r sub (f.Mark m.CloseParen) i rest h.1) (called_stops at (path at2 s names false) op (lexeme_at rest) rest n)

  called_complete : r < most → (at : ℕ) (s : Scope) (names : List ℕ) (i rest : List Tok) → length i ≤ most + length rest → IsPathAt at s names → FitEach i (expr_spelling (path at s names true)) rest → binds (lexeme_at rest) < selection_level
      → R path_expr i ≡ Ok ((path at s names true, 1), rest)
  unfolding path_expr same_mark
  called_complete roomy at s names i rest few l h c =
      let p = takes_parts i (expr_spelling (path at s names false)) parens rest (subst (λ es. FitEach i es rest) (with_parens_spelling (path at s names false) refl) h) in
      let z = takes_less p.0 parens rest p.2 in
      let d = spelled_known at s names i p.0 l p.1 in
      bind_is (R known_path i) _ (path at s names false, d.0) p.0 _ (known_path_complete most r sub at s names d.0 i p.0 (omega (arith, few, z)) l d.1 (no_dot_mark m.OpenParen refl p.0 rest (mark m.CloseParen ∷ []) p.2))
      (rest_called roomy (number_at i) at s names d.0 p.0 rest p.2 (no_fold (lexeme_at rest) c))

  pub parens_complete : r < most → (t : ExprTree) (i rest : List Tok) → length i ≤ most + length rest → IsExpr t → is_selectable t ≡ true → expr_height t ≤ suc r → FitEach i (expr_spelling (with_parens t)) rest → binds (lexeme_at rest) < selection_level
      → R path_expr i ≡ Ok ((with_parens t, expr_height (with_parens t)), rest)
  parens_complete roomy (path at s names false) i rest few l k low h c = called_complete roomy at s names i rest few l h c
  parens_complete roomy (bit_select at base index false) i rest few l k low h c = select_parens roomy (bit_select at base index false) (λ q. tt) i rest few l k low h
  parens_complete roomy (part_select at base first last false) i rest few l k low h c = select_parens roomy (part_select at base first last false) (λ q. tt) i rest few l k low h
  parens_complete roomy _ i rest few l k low h c = absurd (cc)

  pub by_path : (q : Option Lexeme) (i : List Tok) → path_starts q ≡ true → R (prefix_by q) i ≡ R path_expr i
  by_path (Some (lexeme.Name k)) i h = refl
  by_path (Some (lexeme.Word w.Local)) i h = refl
  by_path (Some (lexeme.Word w.This)) i h = refl
  by_path _ i h = absurd (cc)

-- Paths, members, lists and ranges are read; and an expression whose first path was read already goes on as a whole one.
use Rattle.std.proofs.Common.{◌≡◌, ℕ, zero, suc, ◌+◌, ◌<◌, ◌≤◌, max, true, false, List, [], ◌∷◌, ◌++◌, length, Option, Some, Ok, Err, refl, sym, ◌∙◌, ap, subst, arith, None}
use Rattle.svr_token.specs.declared.Lexeme.{Lexeme}
use Rattle.svr_token.specs.declared.Lexeme.TheVariants as lexeme
use Rattle.svr_token.specs.declared.Mark.TheVariants as m
use Rattle.svr_token.specs.declared.NameKind.{NameKind}
use Rattle.svr_token.specs.declared.NameKind.TheVariants as name_kind
use Rattle.svr_operator.specs.declared.BinOp.{BinOp}
use Rattle.svr_tree.specs.declared.expr.Scope.{Scope}
use Rattle.svr_tree.specs.declared.expr.Scope.TheVariants as scope
use Rattle.svr_tree.specs.Tokens.{Tok, FitEach, mark}
use Rattle.svr_tree.specs.Operators.{binary_mark, precedence, least_right, unary_level, selection_level}
use Rattle.svr_tree.specs.ExprTree.{ExprTree, path, bit_select, binary, exprs_of}
use Rattle.svr_tree.specs.ExprGrammar.{scope_spelling, expr_spelling, exprs_spelling, range_spelling, start, IsPathAt, is_member, IsExpr, AreExprs, IsRange, expr_height, exprs_height, range_height}
use Rattle.svr_tree.specs.ItemGrammar.{IsPath, IsMember}
use Rattle.svr_reader.specs.Outcomes.{go, done, Outcome, Parser, and_then, lexeme_at, number_at, next, entered, turned, turns}
use Rattle.svr_reader.specs.declared.fixed.Fixed.TheVariants as f
use Rattle.svr_reader.specs.Program.{run, expect}
use Rattle.svr_reader.specs.Steps.{same_mark, is_fixed}
use Rattle.svr_reader.specs.Lists.{WithHeight}
use Rattle.svr_reader.proofs.Steps.{bind_is, takes_parts, takes_less, lexeme_of, entered_is, expects, choose_true, choose_false, fixed_self}
use Rattle.svr_reader.proofs.Led.{name_tok}
use Rattle.svr_reader.proofs.Layers.{IsComplete}
use Rattle.svr_expr.specs.declared.connective.Connective.TheVariants as connective
use Rattle.svr_expr.specs.Connectives.{binds}
use Rattle.svr_expr.specs.ExprRules.{Rule, known_path, path_in, index_on, member_step, member_in, with_parens, parens_on, suffix_by, suffix_step, with_suffixes, path_expr, prefix, extend, climb_step, climb, expr_in, a_path, a_member, rest_of_path, rest_of_operand, node, expr, a_known_path, some_exprs, a_range, path_starts, path_fold, path_on_by, path_rest}
use Rattle.svr_expr_laws.proofs.Connectives.{precedence_pos, precedence_low, right_pos, goes}
use Rattle.svr_expr_laws.proofs.Trees.{height_pos, level_pos, exprs_spelling_is, exprs_height_is, exprs_are, parens, begins}
use Rattle.svr_expr_laws.proofs.Names.{names_known, known_path_complete}
use Rattle.svr_expr_laws.proofs.CompleteParts.{Before, EndsList, IsCompleteExpr, before_mark, sees_none, fuel_left, exprs_complete, range_complete, path_in_complete, by_path}
use Rattle.svr_expr_laws.proofs.Complete.{turn, extended, binary_on_complete, last_turn, after_token, next_less, expr_complete}

-- tokens before which a path ends, and a path with indices
abbrev pub NotDot : Option Lexeme → Type 0
NotDot q = is_fixed (f.Mark m.Dot) q ≡ false

abbrev pub NotSelect : Option Lexeme → Type 0
NotSelect q = NotDot q × (is_fixed (f.Mark m.OpenBracket) q ≡ false)

-- ---- paths with indices

module _ (most r : ℕ) (sub : ℕ → Parser (WithHeight ExprTree)) (ok : IsCompleteExpr most r sub) where
  abbrev R : {A : Type 0} → Rule A → Parser A
  R p = run most r sub p

  -- the way to a path with indices: the path, and the turns that are left
  record Indexed (t : ExprTree) (i rest : List Tok) : Type 0 where
    fuel : ℕ
    enough : most < fuel + expr_height t
    is : R member_in i ≡ turns fuel (λ s. R (member_step (start t) s)) (t, expr_height t) rest

  index_complete : (base index : ExprTree) (i rest : List Tok) → length i ≤ most + length rest → IsExpr index → expr_height base ≤ r → expr_height index ≤ r → FitEach i (mark m.OpenBracket ∷ (expr_spelling index ++ mark m.CloseBracket ∷ [])) rest
      → R (index_on (start base) (base, expr_height base)) i ≡ Ok ((bit_select (start base) base index false, max (expr_height base) (expr_height index) + 1), rest)
  unfolding index_on
  index_complete base index [] rest few l low low2 h = absurd h
  index_complete base index (t ∷ i) rest few l low low2 h =
      let p = takes_parts i (expr_spelling index) (mark m.CloseBracket ∷ []) rest h.1 in
      let z = takes_less p.0 (mark m.CloseBracket ∷ []) rest p.2 in
      bind_is (entered r (expr_height base) (t ∷ i)) _ t.at i _ (entered_is r (expr_height base) t i low)
      (bind_is (sub 1 i) _ (index, expr_height index) p.0 _ ((ok 1 (omega arith)).at index i p.0 (omega (arith, few, z)) (l, level_pos index) low2 p.1 (before_mark m.CloseBracket refl p.0 rest [] p.2))
      (bind_is (R (expect (f.Mark m.CloseBracket)) p.0) _ tt rest _ (expects most r sub (f.Mark m.CloseBracket) p.0 rest p.2) refl))

  index_turn : (at n : ℕ) (x : WithHeight ExprTree) (i : List Tok) (y : WithHeight ExprTree) (j : List Tok) → lexeme_at i ≡ Some (lexeme.Mark m.OpenBracket) → R (index_on at x) i ≡ Ok (y, j)
      → turns (suc n) (λ s. R (member_step at s)) x i ≡ turns n (λ s. R (member_step at s)) y j
  unfolding member_step
  index_turn at n x i y j k h = bind_is (R (member_step at x) i) (turned (turns n (λ s. R (member_step at s)))) (go y) j _
      (choose_true most r sub _ _ _ i (fixed_self (f.Mark m.OpenBracket) (lexeme_at i) k) ∙ bind_is (R (index_on at x) i) _ y j _ h refl) refl

  indexed_way : r < most → (t : ExprTree) (i rest : List Tok) → length i ≤ most + length rest → IsExpr t → is_member t ≡ true → expr_height t ≤ suc r → FitEach i (expr_spelling t) rest → NotDot (lexeme_at rest) → Indexed t i rest
  unfolding member_in same_mark
  indexed_way roomy (path at s names false) i rest few l k low h c = record {
    fuel = most;
    enough = omega arith;
    is = bind_is (R path_in i) _ (path at s names false, 1) rest _ (path_in_complete most r sub ok at s names i rest few l h c)
        (ap (λ v. turns most (λ s2. R (member_step v s2)) (path at s names false, 1) rest) (begins (path at s names false) i rest l h).at);
  }
  indexed_way roomy (bit_select at base index false) i rest few l k low h c =
      let es = expr_spelling index ++ mark m.CloseBracket ∷ [] in
      let p = takes_parts i (expr_spelling base) (mark m.OpenBracket ∷ es) rest h in
      let z = takes_less p.0 (mark m.OpenBracket ∷ es) rest p.2 in
      let a1 = takes_less i (expr_spelling base) p.0 p.1 in
      let d = indexed_way roomy base i p.0 (omega (arith, few, z)) l.1 k (omega (arith, low)) p.1 (sees_none (f.Mark m.Dot) m.OpenBracket refl p.0 rest es p.2) in
      let u = fuel_left d.fuel (expr_height base) r most d.enough (omega (arith, low)) roomy in
      let read = index_complete base index p.0 rest (omega (arith, few, a1)) l.2 (omega (arith, low)) (omega (arith, low)) p.2 ∙ ap (λ v. Ok ((bit_select v base index false, max (expr_height base) (expr_height index) + 1), rest)) (sym l.0) in
      record {
        fuel = u.0;
        enough = omega (arith, u.1, d.enough);
        is = d.is ∙ ap (λ n. turns n (λ s2. R (member_step (start base) s2)) (base, expr_height base) p.0) u.1
            ∙ index_turn (start base) u.0 (base, expr_height base) p.0 (bit_select at base index false, expr_height (bit_select at base index false)) rest (lexeme_of p.0 rest (lexeme.Mark m.OpenBracket) es p.2) read
            ∙ ap (λ v. turns u.0 (λ s2. R (member_step v s2)) (bit_select at base index false, expr_height (bit_select at base index false)) rest) (sym l.0);
      }
  indexed_way roomy _ i rest few l k low h c = absurd (cc)

  member_complete : r < most → IsComplete expr_spelling IsMember expr_height most (suc r) NotSelect (R member_in)
  unfolding member_step
  member_complete roomy = record {
    at = λ t i rest few l low h c.
        let d = indexed_way roomy t i rest few l.0 l.1 low h c.0 in
        let p = fuel_left d.fuel (expr_height t) r most d.enough low roomy in
        d.is ∙ ap (λ n. turns n (λ s2. R (member_step (start t) s2)) (t, expr_height t) rest) p.1
        ∙ bind_is (R (member_step (start t) (t, expr_height t)) rest) (turned (turns p.0 (λ s2. R (member_step (start t) s2)))) (done (t, expr_height t)) rest _ (choose_false most r sub _ _ _ rest c.1) refl;
  }

  path_complete : IsComplete expr_spelling IsPath expr_height most (suc r) NotDot (R path_in)
  path_complete = record { at = λ t i rest few l low h c. by t i rest few l h c }
    where
      by : (t : ExprTree) (i rest : List Tok) → length i ≤ most + length rest → IsPath t → FitEach i (expr_spelling t) rest → NotDot (lexeme_at rest) → R path_in i ≡ Ok ((t, expr_height t), rest)
      by (path at s names false) i rest few l h c = path_in_complete most r sub ok at s names i rest few l.0 h c
      by _ i rest few l h c = absurd (let no = l.1 in cc)

-- ---- nodes of every height

pub a_path_complete : (most r : ℕ) → r ≤ most → IsComplete expr_spelling IsPath expr_height most r NotDot (node most r a_path)
unfolding node
a_path_complete most zero roomy = record { at = λ t i rest few l low h c. absurd (let p = height_pos t in omega (arith, p, low)) }
a_path_complete most (suc r) roomy = path_complete most r (expr most r) (expr_complete most r (omega (arith, roomy)))

pub a_member_complete : (most r : ℕ) → r ≤ most → IsComplete expr_spelling IsMember expr_height most r NotSelect (node most r a_member)
unfolding node
a_member_complete most zero roomy = record { at = λ t i rest few l low h c. absurd (let p = height_pos t in omega (arith, p, low)) }
a_member_complete most (suc r) roomy = member_complete most r (expr most r) (expr_complete most r (omega (arith, roomy))) (omega (arith, roomy))

pub a_known_path_complete : (most r : ℕ) → 1 ≤ r → (at : ℕ) (s : Scope) (names : List ℕ) (k : NameKind) (i rest : List Tok) → length i ≤ most + length rest → IsPathAt at s names → FitEach i (scope_spelling at s ++ names_known names k) rest → NotDot (lexeme_at rest)
    → a_known_path most r i ≡ Ok ((path at s names false, k), rest)
unfolding a_known_path
a_known_path_complete most zero fits at s names k i rest few g h c = absurd (omega (arith, fits))
a_known_path_complete most (suc r) fits at s names k i rest few g h c = known_path_complete most r (expr most r) at s names k i rest few g h c

pub some_exprs_complete : (most r : ℕ) → r ≤ most → IsComplete (λ xs. exprs_spelling (exprs_of xs)) (λ xs. AreExprs (exprs_of xs)) (λ xs. exprs_height (exprs_of xs)) most r EndsList (some_exprs most r)
unfolding some_exprs
some_exprs_complete most r roomy = record {
  at = λ xs i rest few l low h c.
      let high = exprs_height_is xs in
      (exprs_complete most r (expr most r) (expr_complete most r roomy)).at xs i rest few (exprs_are xs l) (subst (λ z. z ≤ r) high low) (subst (λ es. FitEach i es rest) (exprs_spelling_is xs) h) c
      ∙ ap (λ z. Ok ((xs, z), rest)) (sym high);
}

pub a_range_complete : (most r : ℕ) → r ≤ most → IsComplete range_spelling IsRange range_height most r (Before 1) (a_range most r)
unfolding a_range
a_range_complete most r roomy = range_complete most r (expr most r) (expr_complete most r roomy)

-- ---- an expression behind its first path

regroup : {A B C : Type 0} (o : Outcome A) (g : A → Parser B) (k : B → Parser C) → and_then (and_then o g) k ≡ and_then o (λ x j. and_then (g x j) k)
regroup (Ok y) g k = refl
regroup (Err e) g k = refl

parens_step : (most r : ℕ) (sub : ℕ → Parser (WithHeight ExprTree)) (at : ℕ) (x : WithHeight ExprTree) (i rest : List Tok) → FitEach i parens rest → run most r sub (suffix_step at x) i ≡ Ok (done (with_parens x.0, x.1), rest)
unfolding suffix_step parens_on
parens_step most r sub at x [] rest h = absurd h
parens_step most r sub at x (u ∷ i) rest h = ap (λ q. run most r sub (suffix_by at x (Some q)) (u ∷ i)) h.0 ∙
    bind_is (run most r sub (parens_on x) (u ∷ i)) _ (with_parens x.0, x.1) rest _ (bind_is (run most r sub (expect (f.Mark m.CloseParen)) i) _ tt rest _ (expects most r sub (f.Mark m.CloseParen) i rest h.1) refl) refl

parens_all : (most n r : ℕ) (sub : ℕ → Parser (WithHeight ExprTree)) (at : ℕ) (x : WithHeight ExprTree) (i rest : List Tok) → 1 ≤ n → FitEach i parens rest → turns n (λ s. run most r sub (suffix_step at s)) x i ≡ Ok ((with_parens x.0, x.1), rest)
parens_all most zero r sub at x i rest some h = absurd (omega (arith, some))
parens_all most (suc n) r sub at x i rest some h = bind_is (run most r sub (suffix_step at x) i) (turned (turns n (λ s. run most r sub (suffix_step at s)))) (done (with_parens x.0, x.1)) rest _ (parens_step most r sub at x i rest h) refl

-- an expression that begins with a path is the path and the rest
pub rest_is : (most r : ℕ) → 1 ≤ r → r ≤ most → (i : List Tok) → path_starts (lexeme_at i) ≡ true → expr most r 1 i ≡ and_then (a_known_path most r i) (λ p j. node most r (rest_of_path (number_at i) p) j)
unfolding node a_known_path expr_in prefix path_expr
rest_is most zero fits roomy i h = absurd (omega (arith, fits))
rest_is most (suc r) fits roomy i h =
    ap (λ o. and_then o (λ x. run most r (expr most r) (climb (number_at i) 1 x))) (by_path most r (expr most r) (expr_complete most r (omega (arith, roomy))) (lexeme_at i) i h)
    ∙ regroup (run most r (expr most r) known_path i) (λ p. run most r (expr most r) (path_rest (number_at i) p)) (λ x. run most r (expr most r) (climb (number_at i) 1 x))

-- behind the `()` of a path that ends with no reduction only connectives may stand
pub connectives_are : (most r at at2 : ℕ) (s : Scope) (names : List ℕ) (k : NameKind) (i rest : List Tok) → path_fold (path at2 s names false, k) ≡ None → 1 ≤ r → 1 ≤ most → FitEach i parens rest
    → node most r (rest_of_path at (path at2 s names false, k)) i ≡ node most r (rest_of_operand at (path at2 s names true, 1)) rest
unfolding node path_rest with_suffixes
connectives_are most zero at at2 s names k i rest e fits some h = absurd (omega (arith, fits))
connectives_are most (suc r) at at2 s names k i rest e fits some h =
    ap (λ o. and_then (run most r (expr most r) (path_on_by at (path at2 s names false) o) i) (λ whole. run most r (expr most r) (climb at 1 whole))) e
    ∙ bind_is (run most r (expr most r) (with_suffixes at (path at2 s names false, 1)) i) _ (path at2 s names true, 1) rest _ (parens_all most most r (expr most r) at (path at2 s names false, 1) i rest some h) refl

-- an operator behind its left operand
pub connective_complete : (most r : ℕ) → r ≤ most → (at : ℕ) (op : BinOp) (a b : ExprTree) (i rest : List Tok) → length i ≤ most + length rest → IsExpr (binary at op a b) → expr_height (binary at op a b) ≤ r → FitEach i (mark (binary_mark op) ∷ expr_spelling b) rest → binds (lexeme_at rest) < 1
    → node most r (rest_of_operand (start a) (a, expr_height a)) i ≡ Ok ((binary at op a b, expr_height (binary at op a b)), rest)
unfolding node climb
connective_complete most zero roomy at op a b i rest few l low h c = absurd (omega (arith, low))
connective_complete most (suc r) roomy at op a b i rest few l low h c = by most roomy2 refl
  where
    roomy2 : 2 ≤ most
    roomy2 = let pos = height_pos a in omega (arith, pos, low, roomy)

    full : IsCompleteExpr most r (expr most r)
    full = expr_complete most r (omega (arith, roomy))

    below : binds (lexeme_at rest) < least_right (precedence op)
    below = let pos = precedence_pos op in let right = right_pos (precedence op) pos in omega (arith, right, c)

    step : run most r (expr most r) (extend (start a) (a, expr_height a) (connective.Binary op)) i ≡ Ok ((binary at op a b, expr_height (binary at op a b)), rest)
    step = let n = next_less i in extended most r (expr most r) full (start a) (a, expr_height a) (connective.Binary op) i (next i) _ (omega (arith, low)) (lexeme_of i rest (lexeme.Mark (binary_mark op)) (expr_spelling b) h) refl
        (binary_on_complete most r (expr most r) full at op a b (next i) rest (omega (arith, few, n)) l.0 l.2 l.4 (omega (arith, low)) (after_token i rest (lexeme.Mark (binary_mark op)) (expr_spelling b) h) below)

    by : (n : ℕ) → 2 ≤ n → n ≡ most → turns n (λ s. run most r (expr most r) (climb_step (start a) 1 s)) ((a, expr_height a), selection_level) i ≡ Ok ((binary at op a b, expr_height (binary at op a b)), rest)
    by zero two e = absurd (omega (arith, two))
    by (suc zero) two e = absurd (omega (arith, two))
    by (suc (suc n)) two e = let pos = precedence_pos op in let lows = precedence_low op in
        turn most r (expr most r) full (suc n) (start a) 1 selection_level (a, expr_height a) (connective.Binary op) i rest (binary at op a b, expr_height (binary at op a b)) (lexeme_of i rest (lexeme.Mark (binary_mark op)) (expr_spelling b) h) (goes 1 selection_level (precedence op) pos (omega (arith, lows))) step
        ∙ last_turn most r (expr most r) full n (start a) 1 (least_right (precedence op)) (binary at op a b, expr_height (binary at op a b)) rest c

-- ---- a name alone

abbrev pub name_expr : ExprTree
name_expr = path 0 scope.Plain (0 ∷ []) false

pub name_takes : (z : List Tok) → FitEach (name_tok ∷ z) (expr_spelling name_expr) z
name_takes z = ((refl, record { kind = name_kind.Plain; is = refl }), refl)

pub name_read : (most r : ℕ) → 1 ≤ r → r ≤ most → (least : ℕ) → 1 ≤ least → least ≤ unary_level → (z : List Tok) → binds (lexeme_at z) < least → expr most r least (name_tok ∷ z) ≡ Ok ((name_expr, 1), z)
name_read most r fits roomy least pos low z c = (expr_complete most r roomy least pos).at name_expr (name_tok ∷ z) z (omega (arith, fits, roomy)) (refl, low) fits (name_takes z) c

pub name_path : (most r : ℕ) → 1 ≤ r → r ≤ most → (z : List Tok) → NotDot (lexeme_at z) → node most r a_path (name_tok ∷ z) ≡ Ok ((name_expr, 1), z)
name_path most r fits roomy z c = (a_path_complete most r roomy).at name_expr (name_tok ∷ z) z (omega (arith, fits, roomy)) (refl, refl) fits (name_takes z) c

pub name_member : (most r : ℕ) → 1 ≤ r → r ≤ most → (z : List Tok) → NotSelect (lexeme_at z) → node most r a_member (name_tok ∷ z) ≡ Ok ((name_expr, 1), z)
name_member most r fits roomy z c = (a_member_complete most r roomy).at name_expr (name_tok ∷ z) z (omega (arith, fits, roomy)) (refl, refl) fits (name_takes z) c

pub name_known : (most r : ℕ) → 1 ≤ r → 1 ≤ most → (z : List Tok) → NotDot (lexeme_at z) → a_known_path most r (name_tok ∷ z) ≡ Ok ((name_expr, name_kind.Plain), z)
name_known most r fits some z c = a_known_path_complete most r fits 0 scope.Plain (0 ∷ []) name_kind.Plain (name_tok ∷ z) z (omega (arith, some)) refl ((refl, refl), refl) c

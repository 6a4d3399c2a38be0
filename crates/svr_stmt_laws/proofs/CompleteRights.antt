-- What the grammar has as a right side is read before `;`.
use Rattle.std.proofs.Common.{◌≡◌, ℕ, ◌+◌, ◌<◌, ◌≤◌, max, Bool, true, false, List, [], ◌∷◌, ◌++◌, length, Option, Some, None, Ok, refl, sym, ◌∙◌, ap, subst, arith}
use Rattle.svr_token.specs.declared.Lexeme.{Lexeme}
use Rattle.svr_token.specs.declared.Lexeme.TheVariants as lexeme
use Rattle.svr_token.specs.declared.Word.TheVariants as w
use Rattle.svr_token.specs.declared.Mark.TheVariants as m
use Rattle.svr_token.specs.declared.NameKind.{NameKind}
use Rattle.svr_tree.specs.declared.stmt.RandomizeArgs.{RandomizeArgs}
use Rattle.svr_tree.specs.declared.stmt.RandomizeArgs.TheVariants as args
use Rattle.svr_tree.specs.Tokens.{Tok, FitEach, mark}
use Rattle.svr_tree.specs.ExprTree.{ExprTree, ExprTrees, no_exprs, more_exprs, exprs_of}
use Rattle.svr_tree.specs.ExprGrammar.{expr_spelling, exprs_spelling, exprs_followed, IsExpr, AreExprs, EachIsExpr, expr_height, exprs_height}
use Rattle.svr_tree.specs.ItemTree.{ItemTrees}
use Rattle.svr_tree.specs.ItemGrammar.{IsPath}
use Rattle.svr_expr.specs.declared.connective.Connective.{Connective}
use Rattle.svr_tree.specs.StmtTree.{RightTree, RandomizeTree, StmtTree, value, new, new_array, pattern, answer}
use Rattle.svr_tree.specs.StmtGrammar.{args_spelling, with_spelling, randomize_spelling, value_spelling, right_spelling, AreArgs, IsWith, IsRandomize, IsRight, randomize_height, right_height, with_height}
use Rattle.svr_reader.specs.Outcomes.{Outcome, Parser, lexeme_at, number_at}
use Rattle.svr_reader.specs.declared.fixed.Fixed.TheVariants as f
use Rattle.svr_reader.specs.Program.{run, expect}
use Rattle.svr_reader.specs.Steps.{same_mark, is_fixed, sees}
use Rattle.svr_reader.specs.Lists.{WithHeight}
use Rattle.svr_reader.proofs.Steps.{bind_ok, bind_is, takes_append, takes_parts, takes_less, lexeme_of, fixed_is, expects, led_takes, led_no, choose_true, choose_false}
use Rattle.svr_reader.proofs.Layers.{IsComplete}
use Rattle.svr_expr.specs.Connectives.{connective_of, binds}
use Rattle.svr_expr.specs.ExprRules.{an_expr, rest_of_path, rest_of_operand, node, expr, a_known_path, some_exprs, expr_starts, path_starts, owner, with_parens}
use Rattle.svr_expr_laws.proofs.Trees.{height_pos, level_pos, list_of, list_is, begins}
use Rattle.svr_expr_laws.proofs.Sound.{a_known_path_sound}
use Rattle.svr_expr_laws.proofs.CompleteParts.{EndsList, before_mark, sees_none}
use Rattle.svr_expr_laws.proofs.Complete.{expr_complete}
use Rattle.svr_expr_laws.proofs.Nodes.{rest_is, some_exprs_complete}
use Rattle.svr_stmt.specs.declared.method.Method.{Method}
use Rattle.svr_stmt.specs.declared.method.Method.TheVariants as built
use Rattle.svr_stmt.specs.StmtRules.{Rule, path_method, randomize_end, randomize_given, new_by, new_right, pattern_right, value_right, answer_right, is_connective, behind_parens, behind_open, behind_path, path_right_by, path_right, right_by, right_in, part}
use Rattle.svr_stmt_laws.proofs.Sets.{SetLaws}
use Rattle.svr_stmt_laws.proofs.Trees.{path_high}
use Rattle.svr_stmt_laws.proofs.Operands.{value_plain, no_call, no_fold, rest_parens, connectives_behind, connectives_stop}
use Rattle.svr_stmt_laws.proofs.CompleteCalls.{path_before, call_of, randomize_end_complete, randomize_given_complete}

-- what a right side ends before
abbrev pub Semi : Option Lexeme → Type 0
Semi q = q ≡ Some (lexeme.Mark m.Semicolon)

pub semi_at : (i rest : List Tok) → FitEach i (mark m.Semicolon ∷ []) rest → Semi (lexeme_at i)
semi_at i rest h = lexeme_of i rest (lexeme.Mark m.Semicolon) [] h

pub semi_closes : (q : Option Lexeme) → Semi q → binds q ≡ 0
semi_closes q h = ap binds h

pub semi_no_with : (q : Option Lexeme) → Semi q → is_fixed (f.Word w.With) q ≡ false
semi_no_with q h = ap (is_fixed (f.Word w.With)) h

ends_close : (i rest : List Tok) → FitEach i (mark m.CloseBrace ∷ []) rest → EndsList (lexeme_at i)
unfolding same_mark
ends_close i rest h = (before_mark m.CloseBrace refl i rest [] h, sees_none (f.Mark m.Comma) m.CloseBrace refl i rest [] h)

-- what expr_starts an expression is no `}`
no_brace : (i : List Tok) → expr_starts (lexeme_at i) ≡ true → sees (f.Mark m.CloseBrace) i ≡ false
unfolding same_mark
no_brace i h = by (lexeme_at i) h
  where
    by : (q : Option Lexeme) → expr_starts q ≡ true → is_fixed (f.Mark m.CloseBrace) q ≡ false
    by (Some (lexeme.Mark m.CloseBrace)) s = absurd (cc)
    by _ s = refl

-- behind `path.randomize()`, no operator follows
no_connective : (items : Option ItemTrees) (i rest : List Tok) → FitEach i (with_spelling items) rest → Semi (lexeme_at rest) → is_connective (connective_of (lexeme_at i)) ≡ false
no_connective None i rest h c = ap (λ z. is_connective (connective_of (lexeme_at z))) h ∙ ap (λ q. is_connective (connective_of q)) c
no_connective (Some items) [] rest h c = absurd h
no_connective (Some items) (t ∷ i) rest h c = ap (λ q. is_connective (connective_of (Some q))) h.0

module _ (sets : SetLaws) (most r : ℕ) (roomy : r ≤ most) (below : Parser (WithHeight StmtTree)) where
  abbrev R : {A : Type 0} → Rule A → Parser A
  R p = run most r (part most r below) p

  expr_read : (x : ExprTree) (i rest : List Tok) → length i ≤ most + length rest → IsExpr x → expr_height x ≤ r → FitEach i (expr_spelling x) rest → binds (lexeme_at rest) < 1 → expr most r 1 i ≡ Ok ((x, expr_height x), rest)
  expr_read x i rest few is low h c = (expr_complete most r roomy 1 (omega arith)).at x i rest few (is, level_pos x) low h c

  -- ---- which way is taken

  right_by_path : (q : Option Lexeme) (i : List Tok) → path_starts q ≡ true → R (right_by q) i ≡ R path_right i
  right_by_path (Some (lexeme.Word w.New)) i s = absurd (cc)
  right_by_path (Some (lexeme.Mark m.OpenPattern)) i s = absurd (cc)
  right_by_path q i s = choose_true most r (part most r below) (path_starts q) path_right (value_right (an_expr 1)) i s

  right_by_start : (q : Option Lexeme) (i : List Tok) → expr_starts q ≡ true → path_starts q ≡ false → R (right_by q) i ≡ R (value_right (an_expr 1)) i
  right_by_start (Some (lexeme.Word w.New)) i s none = absurd (cc)
  right_by_start (Some (lexeme.Mark m.OpenPattern)) i s none = absurd (cc)
  right_by_start q i s none = choose_false most r (part most r below) (path_starts q) path_right (value_right (an_expr 1)) i none

  -- ---- `new` and patterns

  new_complete : (bare : Bool) (i rest : List Tok) → FitEach i (right_spelling (new bare)) rest → Semi (lexeme_at rest) → R (right_by (lexeme_at i)) i ≡ Ok ((new bare, 0), rest)
  unfolding new_right
  new_complete bare [] rest h c = absurd h
  new_complete false (t ∷ i) rest h c = ap (λ q. R (right_by (Some q)) (t ∷ i)) h.0 ∙ ap (λ q. R (new_by q) i) (ap lexeme_at h.1 ∙ c) ∙ ap (λ z. Ok ((new false, 0), z)) h.1
  new_complete true (t ∷ []) rest h c = absurd h.1
  new_complete true (t ∷ (u ∷ i)) rest h c = ap (λ q. R (right_by (Some q)) (t ∷ (u ∷ i))) h.0 ∙ ap (λ q. R (new_by (Some q)) (u ∷ i)) h.1.0
      ∙ bind_is (R (expect (f.Mark m.CloseParen)) i) _ tt rest _ (expects most r (part most r below) (f.Mark m.CloseParen) i rest h.1.1) refl

  new_array_complete : (n : ExprTree) (i rest : List Tok) → length i ≤ most + length rest → IsExpr n → expr_height n ≤ r → FitEach i (right_spelling (new_array n)) rest → R (right_by (lexeme_at i)) i ≡ Ok ((new_array n, expr_height n), rest)
  unfolding new_right
  new_array_complete n [] rest few is low h = absurd h
  new_array_complete n (t ∷ []) rest few is low h = absurd h.1
  new_array_complete n (t ∷ (u ∷ i)) rest few is low h =
      let a = takes_parts i (expr_spelling n) (mark m.CloseBracket ∷ []) rest h.1.1 in
      let z1 = takes_less a.0 (mark m.CloseBracket ∷ []) rest a.2 in
      ap (λ q. R (right_by (Some q)) (t ∷ (u ∷ i))) h.0 ∙ ap (λ q. R (new_by (Some q)) (u ∷ i)) h.1.0
      ∙ bind_is (expr most r 1 i) _ (n, expr_height n) a.0 _ (expr_read n i a.0 (omega (arith, few, z1)) is low a.1 (before_mark m.CloseBracket refl a.0 rest [] a.2))
      (bind_is (R (expect (f.Mark m.CloseBracket)) a.0) _ tt rest _ (expects most r (part most r below) (f.Mark m.CloseBracket) a.0 rest a.2) refl)

  pattern_some : (at : ℕ) (x : ExprTree) (xs : List ExprTree) (t : Tok) (i rest : List Tok) → length i ≤ most + length rest → AreExprs (exprs_of (x ∷ xs)) → exprs_height (exprs_of (x ∷ xs)) ≤ r → t.at ≡ at → FitEach i (exprs_spelling (exprs_of (x ∷ xs)) ++ mark m.CloseBrace ∷ []) rest
      → R pattern_right (t ∷ i) ≡ Ok ((pattern at (exprs_of (x ∷ xs)), exprs_height (exprs_of (x ∷ xs))), rest)
  unfolding pattern_right
  pattern_some at x xs t i rest few is low n h =
      let es = exprs_of (x ∷ xs) in
      let a = takes_parts i (exprs_spelling es) (mark m.CloseBrace ∷ []) rest h in
      let z1 = takes_less a.0 (mark m.CloseBrace ∷ []) rest a.2 in
      let first = takes_parts i (expr_spelling x) (exprs_followed (exprs_of xs)) a.0 a.1 in
      led_no most r (part most r below) (f.Mark m.CloseBrace) _ _ i (no_brace i (begins x i first.0 is.0 first.1).first)
      ∙ bind_is (some_exprs most r i) _ (x ∷ xs, exprs_height es) a.0 _ ((some_exprs_complete most r roomy).at (x ∷ xs) i a.0 (omega (arith, few, z1)) is low a.1 (ends_close a.0 rest a.2))
      (bind_is (R (expect (f.Mark m.CloseBrace)) a.0) _ tt rest _ (expects most r (part most r below) (f.Mark m.CloseBrace) a.0 rest a.2) (ap (λ v. Ok ((pattern v es, exprs_height es), rest)) n))

  pattern_complete : (at : ℕ) (es : ExprTrees) (i rest : List Tok) → length i ≤ most + length rest → EachIsExpr es → exprs_height es ≤ r → FitEach i (right_spelling (pattern at es)) rest → R (right_by (lexeme_at i)) i ≡ Ok ((pattern at es, exprs_height es), rest)
  unfolding pattern_right
  pattern_complete at es [] rest few is low h = absurd h
  pattern_complete at no_exprs (t ∷ i) rest few is low h = ap (λ q. R (right_by (Some q)) (t ∷ i)) h.0.1
      ∙ led_takes most r (part most r below) (f.Mark m.CloseBrace) _ _ i rest h.1 ∙ ap (λ v. Ok ((pattern v no_exprs, 0), rest)) h.0.0
  pattern_complete at (more_exprs x xs) (t ∷ i) rest few is low h =
      let back = sym (list_is xs) in
      ap (λ q. R (right_by (Some q)) (t ∷ i)) h.0.1
      ∙ subst (λ z. R pattern_right (t ∷ i) ≡ Ok ((pattern at (more_exprs x z), exprs_height (more_exprs x z)), rest)) (list_is xs)
      (pattern_some at x (list_of xs) t i rest (omega (arith, few)) (subst (λ z. AreExprs (more_exprs x z)) back is) (subst (λ z. exprs_height (more_exprs x z) ≤ r) back low) h.0.0
      (subst (λ z. FitEach i (exprs_spelling (more_exprs x z) ++ mark m.CloseBrace ∷ []) rest) back h.1))

  -- ---- calls

  -- behind `path.randomize(`
  pub behind_call : (at : ℕ) (p : ExprTree) (list : RandomizeArgs) (items : Option ItemTrees) (i rest : List Tok) → length i ≤ most + length rest → AreArgs list → IsWith items → with_height items ≤ r
      → FitEach i (args_spelling list ++ mark m.CloseParen ∷ with_spelling items) rest → Semi (lexeme_at rest)
      → R (behind_open at p) i ≡ Ok ((answer (call_of sets most r roomy below (owner p) list items), max 1 (with_height items)), rest)
  unfolding behind_open behind_parens answer_right
  behind_call at p args.Empty items i rest few are is low h c =
      let a = takes_parts i (mark m.CloseParen ∷ []) (with_spelling items) rest h in
      let a1 = takes_less i (mark m.CloseParen ∷ []) a.0 a.1 in
      led_takes most r (part most r below) (f.Mark m.CloseParen) _ _ i a.0 a.1
      ∙ choose_false most r (part most r below) (is_connective (connective_of (lexeme_at a.0))) _ _ a.0 (no_connective items a.0 rest a.2 c)
      ∙ bind_is (R (randomize_end p args.Empty) a.0) _ (call_of sets most r roomy below (owner p) args.Empty items, max 1 (with_height items)) rest _
      (randomize_end_complete sets most r roomy below p args.Empty items a.0 rest (omega (arith, few, a1)) is low a.2 (semi_no_with (lexeme_at rest) c)) refl
  behind_call at p args.Null items i rest few are is low h c =
      let d = randomize_given_complete sets most r roomy below p args.Null items i rest few (λ e. absurd (cc)) are is low h (semi_no_with (lexeme_at rest) c) in
      led_no most r (part most r below) (f.Mark m.CloseParen) _ _ i d.0 ∙ bind_is (R (randomize_given p) i) _ (call_of sets most r roomy below (owner p) args.Null items, max 1 (with_height items)) rest _ d.1 refl
  behind_call at p (args.Names ns) items i rest few are is low h c =
      let d = randomize_given_complete sets most r roomy below p (args.Names ns) items i rest few (λ e. absurd (cc)) are is low h (semi_no_with (lexeme_at rest) c) in
      led_no most r (part most r below) (f.Mark m.CloseParen) _ _ i d.0 ∙ bind_is (R (randomize_given p) i) _ (call_of sets most r roomy below (owner p) (args.Names ns) items, max 1 (with_height items)) rest _ d.1 refl

  answered : (p : ExprTree) (c : RandomizeTree) (rest : List Tok) → owner p ≡ c.path → IsPath c.path
      → ◌≡◌ {A = Outcome (WithHeight RightTree)} (Ok ((answer (call_of sets most r roomy below (owner p) c.args c.items), max 1 (with_height c.items)), rest)) (Ok ((answer c, randomize_height c), rest))
  answered p c rest e is = ap (λ v. Ok ((answer (call_of sets most r roomy below v c.args c.items), max 1 (with_height c.items)), rest)) e ∙ ap (λ v. Ok ((answer c, max v (with_height c.items)), rest)) (sym (path_high c.path is))

  answer_complete : (c : RandomizeTree) (i rest : List Tok) → length i ≤ most + length rest → IsRandomize c → randomize_height c ≤ r → FitEach i (randomize_spelling c) rest → Semi (lexeme_at rest) → R (right_by (lexeme_at i)) i ≡ Ok ((answer c, randomize_height c), rest)
  unfolding path_right
  answer_complete c i rest few is low h n =
      let high = path_high c.path is.0 in
      let es = args_spelling c.args ++ mark m.CloseParen ∷ with_spelling c.items in
      let d = path_before most r (omega (arith, high, low)) c.path built.Randomize i es rest few is.0 h in
      let a = takes_parts d.mid (mark m.OpenParen ∷ []) es rest d.behind in
      let a1 = takes_less d.mid (mark m.OpenParen ∷ []) a.0 a.1 in
      let a2 = d.less in
      right_by_path (lexeme_at i) i d.first
      ∙ bind_is (a_known_path most r i) _ d.p d.mid _ d.known
      (ap (λ o. R (path_right_by (number_at i) d.p o) d.mid) d.ends
      ∙ led_takes most r (part most r below) (f.Mark m.OpenParen) _ _ d.mid a.0 a.1
      ∙ behind_call (number_at i) d.p.0 c.args c.items a.0 rest (omega (arith, few, a1, a2)) is.1 is.2 (omega (arith, low)) a.2 n
      ∙ answered d.p.0 c rest d.short is.0)

  -- ---- expressions

  module _ (e : ExprTree) (i rest : List Tok) (spelled : FitEach i (value_spelling e) rest) (fits : 1 ≤ r) (p : ExprTree × NameKind) (mid : List Tok) (known : a_known_path most r i ≡ Ok (p, mid))
      (read : node most r (rest_of_path (number_at i) p) mid ≡ Ok ((e, expr_height e), rest)) where
    some : 1 ≤ most
    some = omega (arith, fits, roomy)

    at_path : R (behind_path (number_at i) p) mid ≡ Ok ((value e, expr_height e), rest)
    unfolding behind_path value_right
    at_path = bind_is (node most r (rest_of_path (number_at i) p) mid) _ (e, expr_height e) rest _ read refl

    -- `path.randomize()` is an operand
    at_operand : path_method p ≡ Some built.Randomize → (z0 z : List Tok) → FitEach mid (mark m.OpenParen ∷ []) z0 → FitEach z0 (mark m.CloseParen ∷ []) z → R (behind_parens (number_at i) p.0) z ≡ Ok ((value e, expr_height e), rest)
    unfolding behind_parens value_right
    at_operand is z0 z a b =
        let linked : node most r (rest_of_operand (number_at i) (with_parens p.0, 1)) z ≡ Ok ((e, expr_height e), rest) =
        sym (connectives_behind most r (number_at i) i p mid z known (no_fold p built.Randomize is) fits some (takes_append mid (mark m.OpenParen ∷ []) (mark m.CloseParen ∷ []) z0 z a b)) ∙ read in
        by (is_connective (connective_of (lexeme_at z))) refl linked
      where
        none_of : (o : Option Connective) → is_connective o ≡ false → o ≡ None
        none_of None w = refl
        none_of (Some k) w = absurd (cc)

        both : {a b : ExprTree} {n k : ℕ} {u v : List Tok} → ◌≡◌ {A = Outcome (WithHeight ExprTree)} (Ok ((a, n), u)) (Ok ((b, k), v)) → a ≡ b
        both {a} {b} {n} {k} {u} {v} q = let pair : ◌≡◌ {A = WithHeight ExprTree × List Tok} ((a, n), u) ((b, k), v) = cc in ap (λ y. y.0.0) pair

        by : (b : Bool) → is_connective (connective_of (lexeme_at z)) ≡ b → node most r (rest_of_operand (number_at i) (with_parens p.0, 1)) z ≡ Ok ((e, expr_height e), rest) → R (behind_parens (number_at i) p.0) z ≡ Ok ((value e, expr_height e), rest)
        by true w g = choose_true most r (part most r below) (is_connective (connective_of (lexeme_at z))) _ _ z w ∙ bind_is (node most r (rest_of_operand (number_at i) (with_parens p.0, 1)) z) _ (e, expr_height e) rest _ g refl
        by false w g =
            let stop = connectives_stop most r (number_at i) (with_parens p.0, 1) z some fits (none_of (connective_of (lexeme_at z)) w) in
            let same : with_parens p.0 ≡ e = both (sym stop ∙ g) in
            absurd (no_call most r i p mid known rest (subst (λ v. FitEach i (value_spelling v) rest) (sym same) spelled) is)

    at_paren : path_method p ≡ Some built.Randomize → (b : Bool) → sees (f.Mark m.OpenParen) mid ≡ b → R (path_right_by (number_at i) p (Some built.Randomize)) mid ≡ Ok ((value e, expr_height e), rest)
    unfolding behind_open
    at_paren is false seen = led_no most r (part most r below) (f.Mark m.OpenParen) _ _ mid seen ∙ at_path
    at_paren is true seen = by mid refl (fixed_is (f.Mark m.OpenParen) (lexeme_at mid) seen)
      where
        by : (k : List Tok) → k ≡ mid → lexeme_at mid ≡ Some (lexeme.Mark m.OpenParen) → R (path_right_by (number_at i) p (Some built.Randomize)) mid ≡ Ok ((value e, expr_height e), rest)
        by [] same k = absurd (let none : None ≡ Some (lexeme.Mark m.OpenParen) = ap lexeme_at same ∙ k in cc)
        by (t ∷ z0) same k =
            let first : Some t.lexeme ≡ Some (lexeme.Mark m.OpenParen) = ap lexeme_at same ∙ k in
            let is2 : t.lexeme ≡ lexeme.Mark m.OpenParen = cc in
            let opened : FitEach mid (mark m.OpenParen ∷ []) z0 = subst (λ v. FitEach v (mark m.OpenParen ∷ []) z0) same (is2, refl) in
            let d = rest_parens most r (number_at i) p mid z0 (e, expr_height e) rest (no_fold p built.Randomize is) opened read in
            led_takes most r (part most r below) (f.Mark m.OpenParen) _ _ mid z0 opened
            ∙ led_takes most r (part most r below) (f.Mark m.CloseParen) _ _ z0 d.0 d.1
            ∙ at_operand is z0 d.0 opened d.1

    by_method : (o : Option Method) → path_method p ≡ o → R (path_right_by (number_at i) p o) mid ≡ Ok ((value e, expr_height e), rest)
    by_method None is = at_path
    by_method (Some (built.Mode k)) is = at_path
    by_method (Some built.Randomize) is = at_paren is (sees (f.Mark m.OpenParen) mid) refl

  value_complete : (e : ExprTree) (i rest : List Tok) → length i ≤ most + length rest → IsExpr e → expr_height e ≤ r → FitEach i (value_spelling e) rest → Semi (lexeme_at rest) → R (right_by (lexeme_at i)) i ≡ Ok ((value e, expr_height e), rest)
  unfolding path_right value_right
  value_complete e i rest few is low h c = by (path_starts (lexeme_at i)) refl
    where
      plain : FitEach i (expr_spelling e) rest
      plain = value_plain e i rest is h

      fits : 1 ≤ r
      fits = let pos = height_pos e in omega (arith, pos, low)

      whole : expr most r 1 i ≡ Ok ((e, expr_height e), rest)
      whole = expr_read e i rest few is low plain (let z = semi_closes (lexeme_at rest) c in omega (arith, z))

      by : (b : Bool) → path_starts (lexeme_at i) ≡ b → R (right_by (lexeme_at i)) i ≡ Ok ((value e, expr_height e), rest)
      by false s = right_by_start (lexeme_at i) i (begins e i rest is plain).first s ∙ bind_is (expr most r 1 i) _ (e, expr_height e) rest _ whole refl
      by true s = right_by_path (lexeme_at i) i s
          ∙ bind_ok (a_known_path most r i) (λ p j. node most r (rest_of_path (number_at i) p) j) ((e, expr_height e), rest) (sym (rest_is most r fits roomy i s) ∙ whole) (λ p mid known read.
          bind_is (a_known_path most r i) (λ p. R (path_right_by (number_at i) p (path_method p))) p mid _ known (by_method e i rest h fits p mid known read (path_method p) refl))

  pub right_complete : IsComplete right_spelling IsRight right_height most r Semi (R right_in)
  unfolding right_in
  right_complete = record { at = by }
    where
      by : (x : RightTree) (i rest : List Tok) → length i ≤ most + length rest → IsRight x → right_height x ≤ r → FitEach i (right_spelling x) rest → Semi (lexeme_at rest) → R (right_by (lexeme_at i)) i ≡ Ok ((x, right_height x), rest)
      by (value e) i rest few is low h c = value_complete e i rest few is low h c
      by (new bare) i rest few is low h c = new_complete bare i rest h c
      by (new_array n) i rest few is low h c = new_array_complete n i rest few is low h
      by (pattern at es) i rest few is low h c = pattern_complete at es i rest few is low h
      by (answer t) i rest few is low h c = answer_complete t i rest few is low h c

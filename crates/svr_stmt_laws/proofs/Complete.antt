-- A statement that spells the tokens is read, whatever follows.
use Rattle.std.proofs.Common.{◌≡◌, ℕ, zero, suc, ◌+◌, ◌<◌, ◌≤◌, max, Bool, true, false, List, [], ◌∷◌, ◌++◌, length, Option, Some, None, Ok, refl, sym, ◌∙◌, ap, subst, arith}
use Rattle.svr_token.specs.declared.Lexeme.{Lexeme}
use Rattle.svr_token.specs.declared.Lexeme.TheVariants as lexeme
use Rattle.svr_token.specs.declared.Word.TheVariants as w
use Rattle.svr_token.specs.declared.Mark.TheVariants as m
use Rattle.svr_token.specs.declared.NameKind.{NameKind}
use Rattle.svr_tree.specs.declared.stmt.CallForm.{CallForm}
use Rattle.svr_tree.specs.declared.stmt.CallForm.TheVariants as form
use Rattle.svr_tree.specs.Tokens.{Tok, Entry, FitEach, mark, word}
use Rattle.svr_tree.specs.ExprTree.{ExprTree, path, bit_select}
use Rattle.svr_tree.specs.ExprGrammar.{expr_spelling, start, is_member, is_selectable, IsExpr, expr_height}
use Rattle.svr_token.specs.declared.NameKind.TheVariants as name_kind
use Rattle.svr_tree.specs.ItemGrammar.{IsPath, IsMember}
use Rattle.svr_tree.specs.StmtTree.{RightTree, RandomizeTree, ModeTree, StmtTree, StmtTrees, empty, block, repeat, assign, call, mode, stmts_of}
use Rattle.svr_tree.specs.StmtGrammar.{method, args_spelling, with_spelling, mode_name, mode_spelling, randomize_spelling, right_spelling, stmt_spelling, stmts_spelling, IsRight, IsRandomize, IsMode, IsStmt, AreStmts, right_height, randomize_height, stmt_height, stmts_height}
use Rattle.svr_reader.specs.Outcomes.{done, Outcome, Parser, lexeme_at, number_at, entered, turned, turns}
use Rattle.svr_reader.specs.declared.fixed.Fixed.TheVariants as f
use Rattle.svr_reader.specs.Program as program
use Rattle.svr_reader.specs.Program.{run, expect}
use Rattle.svr_reader.specs.Steps.{same_mark, same_word, is_fixed, sees}
use Rattle.svr_reader.specs.Lists.{WithHeight, until}
use Rattle.svr_reader.proofs.Steps.{bind_is, takes_parts, takes_less, lexeme_of, lexeme_on, entered_is, fixed_is, expects, led_takes, led_no, choose_false}
use Rattle.svr_reader.proofs.Live.{AnyToken}
use Rattle.svr_reader.proofs.Layers.{IsComplete}
use Rattle.svr_reader.proofs.Lists.{until_complete}
use Rattle.svr_expr.specs.Connectives.{binds}
use Rattle.svr_expr.specs.ExprRules.{member_step, expr, a_known_path, a_member_on, path_starts}
use Rattle.svr_expr_laws.proofs.Trees.{height_pos, level_pos, begins}
use Rattle.svr_expr_laws.proofs.CompleteParts.{before_mark, sees_none, selectable_first}
use Rattle.svr_expr_laws.proofs.Complete.{expr_complete}
use Rattle.svr_expr_laws.proofs.Nodes.{NotSelect}
use Rattle.svr_stmt.specs.declared.method.Method.{Method}
use Rattle.svr_stmt.specs.declared.method.Method.TheVariants as built
use Rattle.svr_stmt.specs.StmtRules.{a_stmt, Rule, path_method, randomize_on, whole_call, right_in, assign_on, call_on, mode_on, behind_by, behind_target, path_stmt, empty_stmt, block_stmt, repeat_stmt, enclosed_call, void_stmt, assert_stmt, stmt_by, stmt_in, stmt_starts, part, stmt}
use Rattle.svr_stmt_laws.proofs.Paths.{member_on_complete}
use Rattle.svr_stmt_laws.proofs.Sets.{SetLaws}
use Rattle.svr_stmt_laws.proofs.Trees.{stmts_spelling_is, stmts_height_is, stmts_are, list_of_stmts, stmts_list_is, stmt_long, path_high}
use Rattle.svr_stmt_laws.proofs.Sound.{enclosed_spelling}
use Rattle.svr_stmt_laws.proofs.CompleteCalls.{path_before, randomize_on_complete, whole_call_complete}
use Rattle.svr_stmt_laws.proofs.CompleteRights.{semi_at, semi_no_with, right_complete}

-- a member begins with a path
member_selectable : (t : ExprTree) → is_member t ≡ true → is_selectable t ≡ true
member_selectable (path at s names false) h = refl
member_selectable (bit_select at base index false) h = refl
member_selectable _ h = absurd (cc)

-- a statement takes a height
pub stmt_pos : (t : StmtTree) → 1 ≤ stmt_height t
stmt_pos (empty at) = omega arith
stmt_pos (block at ss) = omega arith
stmt_pos (repeat at n s) = omega arith
stmt_pos (assign at target right) = omega arith
stmt_pos (call at f c) = omega arith
stmt_pos (mode at c) = omega arith

-- indices end where no `[` follows
pub member_stops : (most r at : ℕ) (x : WithHeight ExprTree) (i : List Tok) → 1 ≤ most → 1 ≤ r → sees (f.Mark m.OpenBracket) i ≡ false → a_member_on most r at x i ≡ Ok (x, i)
unfolding a_member_on member_step
member_stops most zero at x i some fits e = absurd (omega (arith, fits))
member_stops zero (suc r) at x i some fits e = absurd (omega (arith, some))
member_stops (suc n) (suc r) at x i some fits e = bind_is (run (suc n) r (expr (suc n) r) (member_step at x) i) (turned (turns n (λ s. run (suc n) r (expr (suc n) r) (member_step at s)))) (done x) i _
    (choose_false (suc n) r (expr (suc n) r) _ _ _ i e) refl

-- what a statement begins with is no `end`
no_end : (i : List Tok) → stmt_starts (lexeme_at i) ≡ true → sees (f.Word w.End) i ≡ false
unfolding same_word
no_end i h = by (lexeme_at i) h
  where
    by : (q : Option Lexeme) → stmt_starts q ≡ true → is_fixed (f.Word w.End) q ≡ false
    by (Some (lexeme.Word w.End)) s = absurd (cc)
    by _ s = refl

path_stmt_starts : (q : Option Lexeme) → path_starts q ≡ true → stmt_starts q ≡ true
path_stmt_starts (Some (lexeme.Mark m.Semicolon)) h = refl
path_stmt_starts (Some (lexeme.Word w.Begin)) h = refl
path_stmt_starts (Some (lexeme.Word w.Repeat)) h = refl
path_stmt_starts (Some (lexeme.Word w.Void)) h = refl
path_stmt_starts (Some (lexeme.Word w.Assert)) h = refl
path_stmt_starts q h = h

-- ---- what a statement begins with

path_first : (t : ExprTree) (i : List Tok) (es : List Entry) (rest : List Tok) → IsExpr t → is_selectable t ≡ true → FitEach i (expr_spelling t ++ es) rest → path_starts (lexeme_at i) ≡ true
path_first t i es rest is k h = let p = takes_parts i (expr_spelling t) es rest h in selectable_first t i p.0 is k p.1

bare_selectable : (t : ExprTree) → IsPath t → is_selectable t ≡ true
bare_selectable (path at s names false) l = refl
bare_selectable _ l = absurd (let no = l.1 in cc)

pub stmt_first : (t : StmtTree) (i rest : List Tok) → IsStmt t → FitEach i (stmt_spelling t) rest → stmt_starts (lexeme_at i) ≡ true
stmt_first (empty at) i rest l h = ap stmt_starts (lexeme_on i rest at (lexeme.Mark m.Semicolon) [] h)
stmt_first (block at ss) i rest l h = ap stmt_starts (lexeme_on i rest at (lexeme.Word w.Begin) (stmts_spelling ss ++ word w.End ∷ []) h)
stmt_first (repeat at n s) i rest l h = ap stmt_starts (lexeme_on i rest at (lexeme.Word w.Repeat) (mark m.OpenParen ∷ (expr_spelling n ++ mark m.CloseParen ∷ stmt_spelling s)) h)
stmt_first (assign at target right) i rest l h = path_stmt_starts (lexeme_at i) (path_first target i (mark m.Assign ∷ (right_spelling right ++ mark m.Semicolon ∷ [])) rest l.1.0 (member_selectable target l.1.1) h)
stmt_first (call at form.Plain c) i rest l h = let p = takes_parts i (randomize_spelling c) (mark m.Semicolon ∷ []) rest h in
    path_stmt_starts (lexeme_at i) (path_first c.path i (method name_kind.Randomize (args_spelling c.args ++ mark m.CloseParen ∷ with_spelling c.items)) p.0 l.1.0.0 (bare_selectable c.path l.1.0) p.1)
stmt_first (call at form.Void c) i rest l h = ap stmt_starts (lexeme_on i rest at (lexeme.Word w.Void) (mark m.Apostrophe ∷ enclosed_spelling c) h)
stmt_first (call at form.Assert c) i rest l h = ap stmt_starts (lexeme_on i rest at (lexeme.Word w.Assert) (enclosed_spelling c) h)
stmt_first (mode at c) i rest l h = let p = takes_parts i (mode_spelling c) (mark m.Semicolon ∷ []) rest h in
    path_stmt_starts (lexeme_at i) (path_first c.path i (method (mode_name c.kind) (expr_spelling c.on ++ mark m.CloseParen ∷ [])) p.0 l.1.0.0 (bare_selectable c.path l.1.0) p.1)

module _ (sets : SetLaws) (most r : ℕ) (roomy : r ≤ most) (below : Parser (WithHeight StmtTree)) (ok : IsComplete stmt_spelling IsStmt stmt_height most r AnyToken below) where
  abbrev R : {A : Type 0} → Rule A → Parser A
  R p = run most r (part most r below) p

  expr_read : (x : ExprTree) (i rest : List Tok) → length i ≤ most + length rest → IsExpr x → expr_height x ≤ r → FitEach i (expr_spelling x) rest → binds (lexeme_at rest) < 1 → expr most r 1 i ≡ Ok ((x, expr_height x), rest)
  expr_read x i rest few is low h c = (expr_complete most r roomy 1 (omega arith)).at x i rest few (is, level_pos x) low h c

  by_path : (q : Option Lexeme) (i : List Tok) → path_starts q ≡ true → R (stmt_by q) i ≡ R path_stmt i
  by_path (Some (lexeme.Mark m.Semicolon)) i s = absurd (cc)
  by_path (Some (lexeme.Word w.Begin)) i s = absurd (cc)
  by_path (Some (lexeme.Word w.Repeat)) i s = absurd (cc)
  by_path (Some (lexeme.Word w.Void)) i s = absurd (cc)
  by_path (Some (lexeme.Word w.Assert)) i s = absurd (cc)
  by_path q i s = refl

  -- ---- assignments

  -- the path was read, and then the indices
  assign_on_read : (at : ℕ) (target : ExprTree) (right : RightTree) (i : List Tok) (p : ExprTree × NameKind) (mid j rest : List Tok) → length j ≤ most + length rest → at ≡ start target → number_at i ≡ start target → IsRight right → right_height right ≤ r
      → a_member_on most r (number_at i) (p.0, 1) mid ≡ Ok ((target, expr_height target), j) → FitEach j (mark m.Assign ∷ (right_spelling right ++ mark m.Semicolon ∷ [])) rest
      → R (assign_on (number_at i) p.0) mid ≡ Ok ((assign at target right, stmt_height (assign at target right)), rest)
  unfolding assign_on
  assign_on_read at target right i p mid j rest few e b is low indices h =
      let a = takes_parts j (mark m.Assign ∷ []) (right_spelling right ++ mark m.Semicolon ∷ []) rest h in
      let d = takes_parts a.0 (right_spelling right) (mark m.Semicolon ∷ []) rest a.2 in
      let a1 = takes_less j (mark m.Assign ∷ []) a.0 a.1 in
      let z1 = takes_less d.0 (mark m.Semicolon ∷ []) rest d.2 in
      bind_is (a_member_on most r (number_at i) (p.0, 1) mid) _ (target, expr_height target) j _ indices
      (bind_is (R (expect (f.Mark m.Assign)) j) _ tt a.0 _ (expects most r (part most r below) (f.Mark m.Assign) j a.0 a.1)
      (bind_is (R right_in a.0) _ (right, right_height right) d.0 _ ((right_complete sets most r roomy below).at right a.0 d.0 (omega (arith, few, a1, z1)) is low d.1 (semi_at d.0 rest d.2))
      (bind_is (R (expect (f.Mark m.Semicolon)) d.0) _ tt rest _ (expects most r (part most r below) (f.Mark m.Semicolon) d.0 rest d.2)
      (ap (λ v. Ok ((assign v target right, max (expr_height target) (right_height right) + 1), rest)) (b ∙ sym e)))))

  assign_complete : (at : ℕ) (target : ExprTree) (right : RightTree) (i rest : List Tok) → length i ≤ most + length rest → at ≡ start target → IsMember target → IsRight right → expr_height target ≤ r → right_height right ≤ r
      → FitEach i (expr_spelling target ++ mark m.Assign ∷ (right_spelling right ++ mark m.Semicolon ∷ [])) rest → R (stmt_by (lexeme_at i)) i ≡ Ok ((assign at target right, stmt_height (assign at target right)), rest)
  unfolding path_stmt behind_target same_mark
  assign_complete at target right i rest few e is isr low lowr h = by_path (lexeme_at i) i first ∙ by
    where
      es : List Entry
      es = right_spelling right ++ mark m.Semicolon ∷ []

      pos : 1 ≤ r
      pos = let p = height_pos target in omega (arith, p, low)

      q : (j : List Tok) × FitEach i (expr_spelling target) j × FitEach j (mark m.Assign ∷ es) rest
      q = takes_parts i (expr_spelling target) (mark m.Assign ∷ es) rest h

      first : path_starts (lexeme_at i) ≡ true
      first = selectable_first target i q.0 is.0 (member_selectable target is.1) q.1

      no_bracket : NotSelect (lexeme_at q.0)
      no_bracket = (sees_none (f.Mark m.Dot) m.Assign refl q.0 rest es q.2, sees_none (f.Mark m.OpenBracket) m.Assign refl q.0 rest es q.2)

      few2 : length q.0 ≤ most + length rest
      few2 = let less = takes_less i (expr_spelling target) q.0 q.1 in omega (arith, few, less)

      -- `(` is no index
      no_paren : (p : ExprTree × NameKind) (mid : List Tok) → a_member_on most r (number_at i) (p.0, 1) mid ≡ Ok ((target, expr_height target), q.0) → (b : Bool) → sees (f.Mark m.OpenParen) mid ≡ b → sees (f.Mark m.OpenParen) mid ≡ false
      no_paren p mid read false s = s
      no_paren p mid read true s =
          let k : lexeme_at mid ≡ Some (lexeme.Mark m.OpenParen) = fixed_is (f.Mark m.OpenParen) (lexeme_at mid) s in
          let stop = member_stops most r (number_at i) (p.0, 1) mid (omega (arith, pos, roomy)) pos (ap (is_fixed (f.Mark m.OpenBracket)) k) in
          let same : mid ≡ q.0 = both (sym stop ∙ read) in
          let at_equal : lexeme_at q.0 ≡ Some (lexeme.Mark m.Assign) = lexeme_of q.0 rest (lexeme.Mark m.Assign) es q.2 in
          absurd (apart (sym k ∙ (ap lexeme_at same ∙ at_equal)))
        where
          both : {a b : WithHeight ExprTree} {u v : List Tok} → ◌≡◌ {A = Outcome (WithHeight ExprTree)} (Ok (a, u)) (Ok (b, v)) → u ≡ v
          both {a} {b} {u} {v} e = let pair : ◌≡◌ {A = WithHeight ExprTree × List Tok} (a, u) (b, v) = cc in ap (λ y. y.1) pair

          apart : ◌≡◌ {A = Option Lexeme} (Some (lexeme.Mark m.OpenParen)) (Some (lexeme.Mark m.Assign)) → ⊥
          apart e = absurd (cc)

      by_method : (p : ExprTree × NameKind) (mid : List Tok) → a_member_on most r (number_at i) (p.0, 1) mid ≡ Ok ((target, expr_height target), q.0) → (o : Option Method) → R (behind_by (number_at i) p.0 o) mid ≡ Ok ((assign at target right, stmt_height (assign at target right)), rest)
      by_method p mid read None = assign_on_read at target right i p mid q.0 rest few2 e (begins target i q.0 is.0 q.1).at isr lowr read q.2
      by_method p mid read (Some k) = led_no most r (part most r below) (f.Mark m.OpenParen) _ _ mid (no_paren p mid read (sees (f.Mark m.OpenParen) mid) refl)
          ∙ assign_on_read at target right i p mid q.0 rest few2 e (begins target i q.0 is.0 q.1).at isr lowr read q.2

      by : R path_stmt i ≡ Ok ((assign at target right, stmt_height (assign at target right)), rest)
      by = member_on_complete most r pos roomy target i q.0 (let z = takes_less q.0 (mark m.Assign ∷ es) rest q.2 in omega (arith, few, z)) is low q.1 no_bracket (λ p mid known read.
          bind_is (a_known_path most r i) (λ p. R (behind_target (number_at i) p)) p mid _ known (by_method p mid read (path_method p)))

  -- ---- calls and modes

  call_on_complete : (at : ℕ) (c : RandomizeTree) (i rest : List Tok) → length i ≤ most + length rest → at ≡ start c.path → IsRandomize c → randomize_height c ≤ r → FitEach i (randomize_spelling c ++ mark m.Semicolon ∷ []) rest
      → R (stmt_by (lexeme_at i)) i ≡ Ok ((call at form.Plain c, randomize_height c + 1), rest)
  unfolding path_stmt behind_target call_on
  call_on_complete at c i rest few e is low h =
      let high = path_high c.path is.0 in
      let es = args_spelling c.args ++ mark m.CloseParen ∷ with_spelling c.items in
      let q = takes_parts i (randomize_spelling c) (mark m.Semicolon ∷ []) rest h in
      let z = takes_less q.0 (mark m.Semicolon ∷ []) rest q.2 in
      let d = path_before most r (omega (arith, high, low)) c.path built.Randomize i es q.0 (omega (arith, few, z)) is.0 q.1 in
      let a = takes_parts d.mid (mark m.OpenParen ∷ []) es q.0 d.behind in
      let a1 = takes_less d.mid (mark m.OpenParen ∷ []) a.0 a.1 in
      let a2 = d.less in
      by_path (lexeme_at i) i d.first
      ∙ bind_is (a_known_path most r i) _ d.p d.mid _ d.known
      (ap (λ o. R (behind_by (number_at i) d.p.0 o) d.mid) d.ends
      ∙ led_takes most r (part most r below) (f.Mark m.OpenParen) _ _ d.mid a.0 a.1
      ∙ bind_is (R (randomize_on d.p.0) a.0) _ (c, randomize_height c) q.0 _ (randomize_on_complete sets most r roomy below d.p.0 c a.0 q.0 (omega (arith, few, a1, a2, z)) d.short is low a.2 (semi_no_with (lexeme_at q.0) (semi_at q.0 rest q.2)))
      (bind_is (R (expect (f.Mark m.Semicolon)) q.0) _ tt rest _ (expects most r (part most r below) (f.Mark m.Semicolon) q.0 rest q.2)
      (ap (λ v. Ok ((call v form.Plain c, randomize_height c + 1), rest)) (d.at ∙ sym e))))

  mode_on_complete : (at : ℕ) (c : ModeTree) (i rest : List Tok) → length i ≤ most + length rest → at ≡ start c.path → IsMode c → stmt_height (mode at c) ≤ suc r → FitEach i (mode_spelling c ++ mark m.Semicolon ∷ []) rest
      → R (stmt_by (lexeme_at i)) i ≡ Ok ((mode at c, stmt_height (mode at c)), rest)
  unfolding path_stmt behind_target mode_on
  mode_on_complete at c i rest few e is low h =
      let high = path_high c.path is.0 in
      let es = expr_spelling c.on ++ mark m.CloseParen ∷ [] in
      let q = takes_parts i (mode_spelling c) (mark m.Semicolon ∷ []) rest h in
      let z = takes_less q.0 (mark m.Semicolon ∷ []) rest q.2 in
      let d = path_before most r (omega (arith, high, low)) c.path (built.Mode c.kind) i es q.0 (omega (arith, few, z)) is.0 q.1 in
      let a = takes_parts d.mid (mark m.OpenParen ∷ []) es q.0 d.behind in
      let x = takes_parts a.0 (expr_spelling c.on) (mark m.CloseParen ∷ []) q.0 a.2 in
      let a1 = takes_less d.mid (mark m.OpenParen ∷ []) a.0 a.1 in
      let a2 = d.less in
      let z2 = takes_less x.0 (mark m.CloseParen ∷ []) q.0 x.2 in
      by_path (lexeme_at i) i d.first
      ∙ bind_is (a_known_path most r i) _ d.p d.mid _ d.known
      (ap (λ o. R (behind_by (number_at i) d.p.0 o) d.mid) d.ends
      ∙ led_takes most r (part most r below) (f.Mark m.OpenParen) _ _ d.mid a.0 a.1
      ∙ bind_is (expr most r 1 a.0) _ (c.on, expr_height c.on) x.0 _ (expr_read c.on a.0 x.0 (omega (arith, few, a1, a2, z, z2)) is.1 (omega (arith, low)) x.1 (before_mark m.CloseParen refl x.0 q.0 [] x.2))
      (bind_is (R (expect (f.Mark m.CloseParen)) x.0) _ tt q.0 _ (expects most r (part most r below) (f.Mark m.CloseParen) x.0 q.0 x.2)
      (bind_is (R (expect (f.Mark m.Semicolon)) q.0) _ tt rest _ (expects most r (part most r below) (f.Mark m.Semicolon) q.0 rest q.2)
      (ap (λ v. Ok ((mode (number_at i) (record { path = v; kind = c.kind; on = c.on }), max 1 (expr_height c.on) + 1), rest)) d.short
      ∙ ap (λ v. Ok ((mode v c, max 1 (expr_height c.on) + 1), rest)) (d.at ∙ sym e)
      ∙ ap (λ v. Ok ((mode at c, max v (expr_height c.on) + 1), rest)) (sym high)))))

  -- ---- statements that begin with a word or a mark

  block_list : (at : ℕ) (xs : List StmtTree) (i rest : List Tok) → length i ≤ most + length rest → AreStmts (stmts_of xs) → stmts_height (stmts_of xs) ≤ r → FitEach i (stmts_spelling (stmts_of xs) ++ word w.End ∷ []) rest
      → R (until (f.Word w.End) (program.call a_stmt)) i ≡ Ok ((xs, stmts_height (stmts_of xs)), rest)
  block_list at xs i rest few is low h =
      let high = stmts_height_is xs in
      (until_complete most r (part most r below) (program.call a_stmt) stmt_spelling IsStmt stmt_height (f.Word w.End) r AnyToken ok stmt_long (λ x j k l t. (tt, no_end j (stmt_first x j k l t))) tt).at xs i rest few (stmts_are xs is) (omega (arith, low, high))
      (subst (λ v. FitEach i (v ++ word w.End ∷ []) rest) (stmts_spelling_is xs) h) tt
      ∙ ap (λ v. Ok ((xs, v), rest)) (sym high)

  block_complete : (at : ℕ) (ss : StmtTrees) (i rest : List Tok) → length i ≤ most + length rest → AreStmts ss → stmts_height ss ≤ r → FitEach i (stmt_spelling (block at ss)) rest → R (stmt_by (lexeme_at i)) i ≡ Ok ((block at ss, stmts_height ss + 1), rest)
  unfolding block_stmt
  block_complete at ss [] rest few is low h = absurd h
  block_complete at ss (t ∷ i) rest few is low h =
      let back = sym (stmts_list_is ss) in
      let xs = list_of_stmts ss in
      ap (λ q. R (stmt_by (Some q)) (t ∷ i)) h.0.1
      ∙ bind_is (entered r 0 (t ∷ i)) _ t.at i _ (entered_is r 0 t i (omega arith))
      (bind_is (R (until (f.Word w.End) (program.call a_stmt)) i) _ (xs, stmts_height (stmts_of xs)) rest _
      (block_list at xs i rest (omega (arith, few)) (subst AreStmts back is) (subst (λ z. stmts_height z ≤ r) back low) (subst (λ z. FitEach i (stmts_spelling z ++ word w.End ∷ []) rest) back h.1))
      (ap (λ z. Ok ((block t.at z, stmts_height z + 1), rest)) (stmts_list_is ss) ∙ ap (λ v. Ok ((block v ss, stmts_height ss + 1), rest)) h.0.0))

  repeat_complete : (at : ℕ) (n : ExprTree) (s : StmtTree) (i rest : List Tok) → length i ≤ most + length rest → IsExpr n → IsStmt s → expr_height n ≤ r → stmt_height s ≤ r → FitEach i (stmt_spelling (repeat at n s)) rest
      → R (stmt_by (lexeme_at i)) i ≡ Ok ((repeat at n s, stmt_height (repeat at n s)), rest)
  unfolding repeat_stmt
  repeat_complete at n s [] rest few isn is lown low h = absurd h
  repeat_complete at n s (t ∷ i) rest few isn is lown low h =
      let o = takes_parts i (mark m.OpenParen ∷ []) (expr_spelling n ++ mark m.CloseParen ∷ stmt_spelling s) rest h.1 in
      let x = takes_parts o.0 (expr_spelling n) (mark m.CloseParen ∷ stmt_spelling s) rest o.2 in
      let c = takes_parts x.0 (mark m.CloseParen ∷ []) (stmt_spelling s) rest x.2 in
      let a1 = takes_less i (mark m.OpenParen ∷ []) o.0 o.1 in
      let a2 = takes_less o.0 (expr_spelling n) x.0 x.1 in
      let a3 = takes_less x.0 (mark m.CloseParen ∷ []) c.0 c.1 in
      let z1 = takes_less x.0 (mark m.CloseParen ∷ stmt_spelling s) rest x.2 in
      let pos = height_pos n in
      ap (λ q. R (stmt_by (Some q)) (t ∷ i)) h.0.1
      ∙ bind_is (entered r 1 (t ∷ i)) _ t.at i _ (entered_is r 1 t i (omega (arith, pos, lown)))
      (bind_is (R (expect (f.Mark m.OpenParen)) i) _ tt o.0 _ (expects most r (part most r below) (f.Mark m.OpenParen) i o.0 o.1)
      (bind_is (expr most r 1 o.0) _ (n, expr_height n) x.0 _ (expr_read n o.0 x.0 (omega (arith, few, a1, z1)) isn lown x.1 (before_mark m.CloseParen refl x.0 rest (stmt_spelling s) x.2))
      (bind_is (R (expect (f.Mark m.CloseParen)) x.0) _ tt c.0 _ (expects most r (part most r below) (f.Mark m.CloseParen) x.0 c.0 c.1)
      (bind_is (below c.0) _ (s, stmt_height s) rest _ (ok.at s c.0 rest (omega (arith, few, a1, a2, a3)) is low c.2 tt)
      (ap (λ v. Ok ((repeat v n s, max (expr_height n) (stmt_height s) + 1), rest)) h.0.0)))))

  enclosed_complete : (at : ℕ) (k : CallForm) (c : RandomizeTree) (i rest : List Tok) → length i ≤ most + length rest → IsRandomize c → randomize_height c ≤ r → FitEach i (enclosed_spelling c) rest → R (enclosed_call at k) i ≡ Ok ((call at k c, randomize_height c + 1), rest)
  unfolding enclosed_call same_word
  enclosed_complete at k c i rest few is low h =
      let ends = mark m.CloseParen ∷ (mark m.Semicolon ∷ []) in
      let o = takes_parts i (mark m.OpenParen ∷ []) (randomize_spelling c ++ ends) rest h in
      let x = takes_parts o.0 (randomize_spelling c) ends rest o.2 in
      let y = takes_parts x.0 (mark m.CloseParen ∷ []) (mark m.Semicolon ∷ []) rest x.2 in
      let a1 = takes_less i (mark m.OpenParen ∷ []) o.0 o.1 in
      let z1 = takes_less x.0 ends rest x.2 in
      bind_is (R (expect (f.Mark m.OpenParen)) i) _ tt o.0 _ (expects most r (part most r below) (f.Mark m.OpenParen) i o.0 o.1)
      (bind_is (R whole_call o.0) _ (c, randomize_height c) x.0 _ ((whole_call_complete sets most r roomy below).at c o.0 x.0 (omega (arith, few, a1, z1)) is low x.1 (sees_none (f.Word w.With) m.CloseParen refl x.0 rest (mark m.Semicolon ∷ []) x.2))
      (bind_is (R (expect (f.Mark m.CloseParen)) x.0) _ tt y.0 _ (expects most r (part most r below) (f.Mark m.CloseParen) x.0 y.0 y.1)
      (bind_is (R (expect (f.Mark m.Semicolon)) y.0) _ tt rest _ (expects most r (part most r below) (f.Mark m.Semicolon) y.0 rest y.2) refl)))

  call_pos : (c : RandomizeTree) → IsRandomize c → randomize_height c ≤ r → 1 ≤ r
  call_pos c is low = let high = path_high c.path is.0 in omega (arith, high, low)

  void_complete : (at : ℕ) (c : RandomizeTree) (i rest : List Tok) → length i ≤ most + length rest → IsRandomize c → randomize_height c ≤ r → FitEach i (stmt_spelling (call at form.Void c)) rest → R (stmt_by (lexeme_at i)) i ≡ Ok ((call at form.Void c, randomize_height c + 1), rest)
  unfolding void_stmt
  void_complete at c [] rest few is low h = absurd h
  void_complete at c (t ∷ i) rest few is low h =
      let o = takes_parts i (mark m.Apostrophe ∷ []) (enclosed_spelling c) rest h.1 in
      let a1 = takes_less i (mark m.Apostrophe ∷ []) o.0 o.1 in
      ap (λ q. R (stmt_by (Some q)) (t ∷ i)) h.0.1
      ∙ bind_is (entered r 1 (t ∷ i)) _ t.at i _ (entered_is r 1 t i (call_pos c is low))
      (bind_is (R (expect (f.Mark m.Apostrophe)) i) _ tt o.0 _ (expects most r (part most r below) (f.Mark m.Apostrophe) i o.0 o.1)
      (enclosed_complete t.at form.Void c o.0 rest (omega (arith, few, a1)) is low o.2 ∙ ap (λ v. Ok ((call v form.Void c, randomize_height c + 1), rest)) h.0.0))

  assert_complete : (at : ℕ) (c : RandomizeTree) (i rest : List Tok) → length i ≤ most + length rest → IsRandomize c → randomize_height c ≤ r → FitEach i (stmt_spelling (call at form.Assert c)) rest → R (stmt_by (lexeme_at i)) i ≡ Ok ((call at form.Assert c, randomize_height c + 1), rest)
  unfolding assert_stmt
  assert_complete at c [] rest few is low h = absurd h
  assert_complete at c (t ∷ i) rest few is low h =
      ap (λ q. R (stmt_by (Some q)) (t ∷ i)) h.0.1
      ∙ bind_is (entered r 1 (t ∷ i)) _ t.at i _ (entered_is r 1 t i (call_pos c is low))
      (enclosed_complete t.at form.Assert c i rest (omega (arith, few)) is low h.1 ∙ ap (λ v. Ok ((call v form.Assert c, randomize_height c + 1), rest)) h.0.0)

  empty_complete : (at : ℕ) (i rest : List Tok) → FitEach i (stmt_spelling (empty at)) rest → R (stmt_by (lexeme_at i)) i ≡ Ok ((empty at, 1), rest)
  unfolding empty_stmt
  empty_complete at [] rest h = absurd h
  empty_complete at (t ∷ i) rest h = ap (λ q. R (stmt_by (Some q)) (t ∷ i)) h.0.1
      ∙ bind_is (entered r 0 (t ∷ i)) _ t.at i _ (entered_is r 0 t i (omega arith)) (ap (λ v. Ok ((empty v, 1), i)) h.0.0 ∙ ap (λ v. Ok ((empty at, 1), v)) h.1)

  stmt_in_complete : IsComplete stmt_spelling IsStmt stmt_height most (suc r) AnyToken (R stmt_in)
  unfolding stmt_in
  stmt_in_complete = record { at = by }
    where
      by : (x : StmtTree) (i rest : List Tok) → length i ≤ most + length rest → IsStmt x → stmt_height x ≤ suc r → FitEach i (stmt_spelling x) rest → AnyToken (lexeme_at rest) → R (stmt_by (lexeme_at i)) i ≡ Ok ((x, stmt_height x), rest)
      by (empty at) i rest few is low h c = empty_complete at i rest h
      by (block at ss) i rest few is low h c = block_complete at ss i rest few is (omega (arith, low)) h
      by (repeat at n s) i rest few is low h c = repeat_complete at n s i rest few is.0 is.1 (omega (arith, low)) (omega (arith, low)) h
      by (assign at target right) i rest few is low h c = assign_complete at target right i rest few is.0 is.1 is.2 (omega (arith, low)) (omega (arith, low)) h
      by (call at form.Plain t) i rest few is low h c = call_on_complete at t i rest few is.0 is.1 (omega (arith, low)) h
      by (call at form.Void t) i rest few is low h c = void_complete at t i rest few is.1 (omega (arith, low)) h
      by (call at form.Assert t) i rest few is low h c = assert_complete at t i rest few is.1 (omega (arith, low)) h
      by (mode at t) i rest few is low h c = mode_on_complete at t i rest few is.0 is.1 low h

pub stmt_complete : SetLaws → (most r : ℕ) → r ≤ most → IsComplete stmt_spelling IsStmt stmt_height most r AnyToken (stmt most r)
unfolding stmt
stmt_complete sets most zero roomy = record { at = λ t i rest few l low h c. absurd (let p = stmt_pos t in omega (arith, p, low)) }
stmt_complete sets most (suc r) roomy = stmt_in_complete sets most r (omega (arith, roomy)) (stmt most r) (stmt_complete sets most r (omega (arith, roomy)))

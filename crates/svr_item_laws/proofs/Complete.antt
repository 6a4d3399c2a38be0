-- An item of the grammar that spells the tokens is read, unless an `else` follows that it could take.
use Rattle.std.proofs.Common.{◌≡◌, ℕ, suc, ◌+◌, ◌<◌, ◌≤◌, max, true, false, List, [], ◌∷◌, ◌++◌, length, Option, Some, None, Ok, refl, sym, ◌∙◌, ap, subst, arith}
use Rattle.svr_token.specs.declared.Lexeme.{Lexeme}
use Rattle.svr_token.specs.declared.Lexeme.TheVariants as lexeme
use Rattle.svr_token.specs.declared.Word.TheVariants as w
use Rattle.svr_token.specs.declared.Mark.TheVariants as m
use Rattle.svr_operator.specs.declared.BinOp.TheVariants as b
use Rattle.svr_tree.specs.Tokens.{Tok, Entry, On, Name, FitEach, mark, word, names_listed}
use Rattle.svr_tree.specs.DeclGrammar.{greatest}
use Rattle.svr_tree.specs.ExprTree.{ExprTree, binary, ExprTrees, exprs_of}
use Rattle.svr_tree.specs.ExprGrammar.{expr_spelling, exprs_spelling, level, start, IsExpr, expr_height, exprs_height}
use Rattle.svr_tree.specs.ItemTree.{DistTree, ItemTree, plain, unique, implies, branch, foreach, disable, solve, SetTree, ElseTree}
use Rattle.svr_tree.specs.ItemGrammar.{dist_spelling, item_spelling, set_spelling, else_spelling, takes_else, set_takes_else, IsStated, IsDist, IsPath, IsMember, ArePaths, AreMembers, AreLoopVars, IsItem, dist_height, item_height, set_height, else_height}
use Rattle.svr_reader.specs.Outcomes.{Parser, lexeme_at, number_at, entered}
use Rattle.svr_reader.specs.declared.fixed.Fixed.TheVariants as f
use Rattle.svr_reader.specs.Program.{call, run, expect}
use Rattle.svr_reader.specs.Steps.{same_mark, is_fixed, sees}
use Rattle.svr_reader.specs.Lists.{WithHeight, listing, name}
use Rattle.svr_reader.proofs.Steps.{bind_is, takes_parts, takes_less, lexeme_of, lexeme_on, entered_is, expects, led_no, led_takes, name_complete}
use Rattle.svr_expr.specs.Connectives.{binds}
use Rattle.svr_expr.specs.ExprRules.{a_path, a_member, rest_of_operand, node, expr, expr_starts}
use Rattle.svr_expr_laws.proofs.Trees.{height_pos, list_of, list_is, exprs_spelling_is, exprs_height_is, begins}
use Rattle.svr_expr_laws.proofs.CompleteParts.{before_mark}
use Rattle.svr_expr_laws.proofs.Complete.{expr_complete}
use Rattle.svr_expr_laws.proofs.Nodes.{NotDot, NotSelect, a_path_complete, a_member_complete, connective_complete}
use Rattle.svr_item.specs.ItemRules.{Part, Ans, Rule, a_node, item_set, otherwise, plain_on, implies_on, equivalent_on, expr_item_by, expr_item_on, expr_item, soft_item, unique_item, branch_item, loop_vars, foreach_item, disable_item, solve_item, item_by, item_in, block_item_by, block_item_in, part}
use Rattle.svr_item_laws.proofs.Trees.{NotElse, paths_are, members_are}
use Rattle.svr_item_laws.proofs.Firsts.{greatest_pos}
use Rattle.svr_item_laws.proofs.CompleteParts.{NotComma, of_token, brace_follows, end_follows, before_follows, bracket_follows, any_at, plain_on_complete, paths_complete, members_complete}
use Rattle.svr_item_laws.proofs.CompleteSets.{CompletesItems, set_complete, otherwise_complete, met_closed}

-- `<->` with nothing behind it, or an expression of the level of `?:` or higher
by_level : {G : Type 0} (e : ExprTree) (d : Option DistTree) → IsStated e d → ((at : ℕ) (x z : ExprTree) → e ≡ binary at b.Equivalent x z → d ≡ None → G) → (2 ≤ level e → G) → G
by_level (binary at b.Equivalent x z) None s f g = f at x z refl refl
by_level e d s f g = g s

dist_word : (d : DistTree) (i rest : List Tok) → FitEach i (dist_spelling (Some d) ++ mark m.Semicolon ∷ []) rest → lexeme_at i ≡ Some (lexeme.Word w.Dist)
dist_word d [] rest h = absurd h
dist_word d (t ∷ i) rest h = ap Some h.0.1

dist_before : (d : Option DistTree) (i rest : List Tok) → FitEach i (dist_spelling d ++ mark m.Semicolon ∷ []) rest → binds (lexeme_at i) < 1
dist_before None i rest h = before_mark m.Semicolon refl i rest [] h
dist_before (Some d) i rest h = let e : binds (lexeme_at i) ≡ 0 = ap binds (dist_word d i rest h) in omega (arith, e)

-- the `dist` of an item, or its end, binds no operand
dist_first : (d : Option DistTree) (i rest : List Tok) → FitEach i (dist_spelling d ++ mark m.Semicolon ∷ []) rest → binds (lexeme_at i) < 2
dist_first d i rest h = let e = dist_before d i rest h in omega (arith, e)

module _ (most r : ℕ) (roomy : r ≤ most) (below : Parser (WithHeight ItemTree)) (ok : CompletesItems IsItem most r below) where
  abbrev sub : (k : Part) → Parser (Ans k)
  sub = part most r below

  abbrev R : {A : Type 0} → Rule A → Parser A
  R p = run most r sub p

  -- the word that leads an item
  enters : (h at : ℕ) (i rest : List Tok) (q : Lexeme) (es : List Entry) → h ≤ r → FitEach i (On at q ∷ es) rest → (mid : List Tok) × (entered r h i ≡ Ok (at, mid)) × FitEach mid es rest × (length mid ≤ length i)
  enters h at [] rest q es fits t = absurd t
  enters h at (u ∷ i) rest q es fits t = (i, entered_is r h u i fits ∙ ap (λ n. Ok (n, i)) t.0.0, t.1, omega arith)

  -- ---- items that begin with an expression

  two_at : (x : ExprTree) (i rest : List Tok) → length i ≤ most + length rest → IsExpr x → 2 ≤ level x → expr_height x ≤ r → FitEach i (expr_spelling x) rest → binds (lexeme_at rest) < 2 → expr most r 2 i ≡ Ok ((x, expr_height x), rest)
  two_at x i rest few l v low h c = (expr_complete most r roomy 2 (omega arith)).at x i rest few (l, v) low h c

  by_weighed : (at : ℕ) (e : WithHeight ExprTree) (d : Option DistTree) (i rest : List Tok) → FitEach i (dist_spelling d ++ mark m.Semicolon ∷ []) rest → R (expr_item_on at e) i ≡ R (plain_on at false e) i
  unfolding expr_item_on
  by_weighed at e None i rest h = ap (λ q. R (expr_item_by at e q) i) (lexeme_of i rest (lexeme.Mark m.Semicolon) [] h)
  by_weighed at e (Some d) i rest h = ap (λ q. R (expr_item_by at e q) i) (dist_word d i rest h)

  plain_complete : (at : ℕ) (e : ExprTree) (d : Option DistTree) (i rest : List Tok) → length i ≤ most + length rest → at ≡ start e → IsExpr e → 2 ≤ level e → IsDist d → item_height (plain at false e d) ≤ suc r → FitEach i (item_spelling (plain at false e d)) rest
      → R expr_item i ≡ Ok ((plain at false e d, item_height (plain at false e d)), rest)
  unfolding expr_item
  plain_complete at e d i rest few first l v ld low h =
      let es = dist_spelling d ++ mark m.Semicolon ∷ [] in
      let p = takes_parts i (expr_spelling e) es rest h in
      let a1 = takes_less i (expr_spelling e) p.0 p.1 in
      let z1 = takes_less p.0 es rest p.2 in
      let begin : number_at i ≡ at = (begins e i p.0 l p.1).at ∙ sym first in
      bind_is (expr most r 2 i) _ (e, expr_height e) p.0 _ (two_at e i p.0 (omega (arith, few, z1)) l v (omega (arith, low)) p.1 (dist_first d p.0 rest p.2))
      (by_weighed (number_at i) (e, expr_height e) d p.0 rest p.2 ∙ plain_on_complete most r roomy below (number_at i) false e d p.0 rest (omega (arith, few, a1)) ld (omega (arith, low)) p.2
      ∙ ap (λ n. Ok ((plain n false e d, max (expr_height e) (dist_height d) + 1), rest)) begin)

  equivalent_on_complete : (at k : ℕ) (x z : ExprTree) (i rest : List Tok) → length i ≤ most + length rest → at ≡ k → IsExpr (binary k b.Equivalent x z) → item_height (plain at false (binary k b.Equivalent x z) None) ≤ suc r
      → FitEach i (item_spelling (plain at false (binary k b.Equivalent x z) None)) rest → R expr_item i ≡ Ok ((plain at false (binary k b.Equivalent x z) None, item_height (plain at false (binary k b.Equivalent x z) None)), rest)
  unfolding expr_item expr_item_on equivalent_on
  equivalent_on_complete at k x z i rest few first l low h =
      let e = binary k b.Equivalent x z in
      let o = takes_parts i (expr_spelling e) (mark m.Semicolon ∷ []) rest h in
      let p = takes_parts i (expr_spelling x) (mark m.DoubleArrow ∷ expr_spelling z) o.0 o.1 in
      let a1 = takes_less i (expr_spelling x) p.0 p.1 in
      let a2 = takes_less p.0 (mark m.DoubleArrow ∷ expr_spelling z) o.0 p.2 in
      let z1 = takes_less o.0 (mark m.Semicolon ∷ []) rest o.2 in
      let arrow = lexeme_of p.0 o.0 (lexeme.Mark m.DoubleArrow) (expr_spelling z) p.2 in
      let weak : binds (lexeme_at p.0) ≡ 1 = ap binds arrow in
      let begin : number_at i ≡ start x = (begins x i p.0 l.1 p.1).at in
      let same : number_at i ≡ at = begin ∙ sym l.0 ∙ sym first in
      bind_is (expr most r 2 i) _ (x, expr_height x) p.0 _ (two_at x i p.0 (omega (arith, few, a2, z1)) l.1 l.3 (omega (arith, low)) p.1 (omega (arith, weak)))
      (ap (λ q. R (expr_item_by (number_at i) (x, expr_height x) q) p.0) arrow
      ∙ bind_is (node most r (rest_of_operand (number_at i) (x, expr_height x)) p.0) _ (e, expr_height e) o.0 _
      (ap (λ n. node most r (rest_of_operand n (x, expr_height x)) p.0) begin ∙ connective_complete most r roomy k b.Equivalent x z p.0 o.0 (omega (arith, few, a1, z1)) l (omega (arith, low)) p.2 (before_mark m.Semicolon refl o.0 rest [] o.2))
      (bind_is (R (expect (f.Mark m.Semicolon)) o.0) _ tt rest _ (expects most r sub (f.Mark m.Semicolon) o.0 rest o.2)
      (let high : expr_height e + 1 ≡ item_height (plain at false e None) = omega arith in
      ap (λ n. Ok ((plain n false e None, expr_height e + 1), rest)) same ∙ ap (λ n. Ok ((plain at false e None, n), rest)) high)))

  implies_on_complete : (at : ℕ) (t : ExprTree) (body : SetTree) (i rest : List Tok) → length i ≤ most + length rest → IsItem (implies at t body) → item_height (implies at t body) ≤ suc r → FitEach i (item_spelling (implies at t body)) rest
      → (set_takes_else body ≡ true → NotElse (lexeme_at rest)) → R expr_item i ≡ Ok ((implies at t body, item_height (implies at t body)), rest)
  unfolding expr_item expr_item_on implies_on
  implies_on_complete at t body i rest few l low h closed =
      let p = takes_parts i (expr_spelling t) (mark m.Arrow ∷ set_spelling body) rest h in
      let a1 = takes_less i (expr_spelling t) p.0 p.1 in
      let z1 = takes_less p.0 (mark m.Arrow ∷ set_spelling body) rest p.2 in
      let arrow = lexeme_of p.0 rest (lexeme.Mark m.Arrow) (set_spelling body) p.2 in
      let weak : binds (lexeme_at p.0) ≡ 1 = ap binds arrow in
      let begin : number_at i ≡ at = (begins t i p.0 l.1 p.1).at ∙ sym l.0 in
      bind_is (expr most r 2 i) _ (t, expr_height t) p.0 _ (two_at t i p.0 (omega (arith, few, z1)) l.1 l.2 (omega (arith, low)) p.1 (omega (arith, weak)))
      (ap (λ q. R (expr_item_by (number_at i) (t, expr_height t) q) p.0) arrow
      ∙ behind p.0 p.2 (omega (arith, few, a1)) ∙ ap (λ n. Ok ((implies n t body, max (expr_height t) (set_height body) + 1), rest)) begin)
    where
      behind : (j : List Tok) → FitEach j (mark m.Arrow ∷ set_spelling body) rest → length j ≤ most + length rest → R (implies_on (number_at i) (t, expr_height t)) j ≡ Ok ((implies (number_at i) t body, max (expr_height t) (set_height body) + 1), rest)
      behind [] g few2 = absurd g
      behind (u ∷ j) g few2 = bind_is (R item_set j) _ (body, set_height body) rest _ (set_complete most r below ok body j rest (omega (arith, few2)) l.3 (omega (arith, low)) g.1 closed) refl

  expr_item_complete : (at : ℕ) (e : ExprTree) (d : Option DistTree) (i rest : List Tok) → length i ≤ most + length rest → IsItem (plain at false e d) → item_height (plain at false e d) ≤ suc r → FitEach i (item_spelling (plain at false e d)) rest
      → R expr_item i ≡ Ok ((plain at false e d, item_height (plain at false e d)), rest)
  expr_item_complete at e d i rest few l low h = by_level e d l.2
      (λ k x z is none.
      let both : ((plain at false e d) ≡ (plain at false (binary k b.Equivalent x z) None)) = cc in
      subst (λ v. R expr_item i ≡ Ok ((v, item_height v), rest)) (sym both)
      (equivalent_on_complete at k x z i rest few (l.0 ∙ ap start is) (subst IsExpr is l.1) (subst (λ v. item_height v ≤ suc r) both low) (subst (λ v. FitEach i (item_spelling v) rest) both h)))
      (λ v. plain_complete at e d i rest few l.0 l.1 v l.3 low h)

  -- ---- items that a word leads

  soft_complete : (at : ℕ) (e : ExprTree) (d : Option DistTree) (i rest : List Tok) → length i ≤ most + length rest → IsItem (plain at true e d) → item_height (plain at true e d) ≤ suc r → FitEach i (item_spelling (plain at true e d)) rest
      → R soft_item i ≡ Ok ((plain at true e d, item_height (plain at true e d)), rest)
  unfolding soft_item
  soft_complete at e d i rest few l low h =
      let es = dist_spelling d ++ mark m.Semicolon ∷ [] in
      let pos = height_pos e in
      let n = enters 1 at i rest (lexeme.Word w.Soft) (expr_spelling e ++ es) (omega (arith, pos, low)) h in
      let p = takes_parts n.0 (expr_spelling e) es rest n.2 in
      let a1 = takes_less n.0 (expr_spelling e) p.0 p.1 in
      let z1 = takes_less p.0 es rest p.2 in
      let shorter = n.3 in
      let weak = dist_before d p.0 rest p.2 in
      bind_is (entered r 1 i) _ at n.0 _ n.1
      (bind_is (expr most r 1 n.0) _ (e, expr_height e) p.0 _ (any_at most r roomy below e n.0 p.0 (omega (arith, few, z1, shorter)) l.0 (omega (arith, low)) p.1 weak)
      (plain_on_complete most r roomy below at true e d p.0 rest (omega (arith, few, a1, shorter)) l.1 (omega (arith, low)) p.2))

  unique_complete : (at : ℕ) (xs : List ExprTree) (i rest : List Tok) → length i ≤ most + length rest → AreMembers (exprs_of xs) → exprs_height (exprs_of xs) ≤ r → FitEach i (item_spelling (unique at (exprs_of xs))) rest
      → R unique_item i ≡ Ok ((unique at (exprs_of xs), item_height (unique at (exprs_of xs))), rest)
  unfolding unique_item
  unique_complete at xs i rest few l low h =
      let o = members_are xs l in
      let high = exprs_height_is xs in
      let pos = greatest_pos IsMember xs o in
      let es3 = mark m.Semicolon ∷ [] in
      let es2 = mark m.CloseBrace ∷ es3 in
      let n = enters 1 at i rest (lexeme.Word w.Unique) (mark m.OpenBrace ∷ (exprs_spelling (exprs_of xs) ++ es2)) (omega (arith, pos, low, high)) h in
      let a = takes_parts n.0 (mark m.OpenBrace ∷ []) (exprs_spelling (exprs_of xs) ++ es2) rest n.2 in
      let p = takes_parts a.0 (exprs_spelling (exprs_of xs)) es2 rest a.2 in
      let z = takes_parts p.0 (mark m.CloseBrace ∷ []) es3 rest p.2 in
      let a1 = takes_less n.0 (mark m.OpenBrace ∷ []) a.0 a.1 in
      let z1 = takes_less p.0 es2 rest p.2 in
      let shorter = n.3 in
      bind_is (entered r 1 i) _ at n.0 _ n.1
      (bind_is (R (expect (f.Mark m.OpenBrace)) n.0) _ tt a.0 _ (expects most r sub (f.Mark m.OpenBrace) n.0 a.0 a.1)
      (bind_is (R (listing (call (a_node a_member))) a.0) _ (xs, greatest expr_height xs) p.0 _
      ((members_complete most r roomy below (of_token NotSelect (lexeme.Mark m.CloseBrace) brace_follows.0) (of_token NotComma (lexeme.Mark m.CloseBrace) brace_follows.1)).at xs a.0 p.0 (omega (arith, few, a1, z1, shorter)) o (omega (arith, low, high))
      (subst (λ es. FitEach a.0 es p.0) (exprs_spelling_is xs) p.1) (lexeme_of p.0 rest (lexeme.Mark m.CloseBrace) es3 p.2))
      (bind_is (R (expect (f.Mark m.CloseBrace)) p.0) _ tt z.0 _ (expects most r sub (f.Mark m.CloseBrace) p.0 z.0 z.1)
      (bind_is (R (expect (f.Mark m.Semicolon)) z.0) _ tt rest _ (expects most r sub (f.Mark m.Semicolon) z.0 rest z.2)
      (ap (λ v. Ok ((unique at (exprs_of xs), v + 1), rest)) (sym high))))))

  unique_any : (at : ℕ) (members : ExprTrees) (i rest : List Tok) → length i ≤ most + length rest → AreMembers members → exprs_height members ≤ r → FitEach i (item_spelling (unique at members)) rest → R unique_item i ≡ Ok ((unique at members, item_height (unique at members)), rest)
  unique_any at members i rest few l low h = let back = sym (list_is members) in
      subst (λ z. R unique_item i ≡ Ok ((unique at z, item_height (unique at z)), rest)) (list_is members)
      (unique_complete at (list_of members) i rest few (subst AreMembers back l) (subst (λ z. exprs_height z ≤ r) back low) (subst (λ z. FitEach i (item_spelling (unique at z)) rest) back h))

  branch_complete : (at : ℕ) (t : ExprTree) (met : SetTree) (unmet : ElseTree) (i rest : List Tok) → length i ≤ most + length rest → IsItem (branch at t met unmet) → item_height (branch at t met unmet) ≤ suc r → FitEach i (item_spelling (branch at t met unmet)) rest
      → (takes_else (branch at t met unmet) ≡ true → NotElse (lexeme_at rest)) → R branch_item i ≡ Ok ((branch at t met unmet, item_height (branch at t met unmet)), rest)
  unfolding branch_item
  branch_complete at t met unmet i rest few l low h closed =
      let sets = set_spelling met ++ else_spelling unmet in
      let es2 = mark m.CloseParen ∷ sets in
      let pos = height_pos t in
      let n = enters 1 at i rest (lexeme.Word w.If) (mark m.OpenParen ∷ (expr_spelling t ++ es2)) (omega (arith, pos, low)) h in
      let a = takes_parts n.0 (mark m.OpenParen ∷ []) (expr_spelling t ++ es2) rest n.2 in
      let p = takes_parts a.0 (expr_spelling t) es2 rest a.2 in
      let z = takes_parts p.0 (mark m.CloseParen ∷ []) sets rest p.2 in
      let s = takes_parts z.0 (set_spelling met) (else_spelling unmet) rest z.2 in
      let a1 = takes_less n.0 (mark m.OpenParen ∷ []) a.0 a.1 in
      let a2 = takes_less a.0 (expr_spelling t) p.0 p.1 in
      let a3 = takes_less p.0 (mark m.CloseParen ∷ []) z.0 z.1 in
      let a4 = takes_less z.0 (set_spelling met) s.0 s.1 in
      let z1 = takes_less p.0 es2 rest p.2 in
      let z2 = takes_less s.0 (else_spelling unmet) rest s.2 in
      let shorter = n.3 in
      bind_is (entered r 1 i) _ at n.0 _ n.1
      (bind_is (R (expect (f.Mark m.OpenParen)) n.0) _ tt a.0 _ (expects most r sub (f.Mark m.OpenParen) n.0 a.0 a.1)
      (bind_is (expr most r 1 a.0) _ (t, expr_height t) p.0 _ (any_at most r roomy below t a.0 p.0 (omega (arith, few, a1, z1, shorter)) l.0 (omega (arith, low)) p.1 (before_mark m.CloseParen refl p.0 rest sets p.2))
      (bind_is (R (expect (f.Mark m.CloseParen)) p.0) _ tt z.0 _ (expects most r sub (f.Mark m.CloseParen) p.0 z.0 z.1)
      (bind_is (R item_set z.0) _ (met, set_height met) s.0 _
      (set_complete most r below ok met z.0 s.0 (omega (arith, few, a1, a2, a3, z2, shorter)) l.1 (omega (arith, low)) s.1 (met_closed most r below ok at t met unmet s.0 rest l.2 s.2 closed))
      (bind_is (R otherwise s.0) _ (unmet, else_height unmet) rest _
      (otherwise_complete most r below ok at t met unmet s.0 rest (omega (arith, few, a1, a2, a3, a4, shorter)) l.2 (omega (arith, low)) s.2 closed) refl)))))

  loop_vars_complete : (vars : List ℕ) (i rest : List Tok) → AreLoopVars vars → FitEach i (names_listed vars) rest → sees (f.Mark m.Comma) rest ≡ false → R loop_vars i ≡ Ok (vars, rest)
  unfolding loop_vars
  loop_vars_complete [] i rest l h c = absurd l
  loop_vars_complete (u ∷ []) i rest l h c = bind_is (R name i) _ u rest _ (name_complete most r sub u i rest h) (led_no most r sub (f.Mark m.Comma) _ _ rest c)
  loop_vars_complete (u ∷ (v ∷ [])) i rest l h c =
      let a = takes_parts i (Name u ∷ []) (mark m.Comma ∷ (Name v ∷ [])) rest h in
      let b = takes_parts a.0 (mark m.Comma ∷ []) (Name v ∷ []) rest a.2 in
      bind_is (R name i) _ u a.0 _ (name_complete most r sub u i a.0 a.1)
      (led_takes most r sub (f.Mark m.Comma) _ _ a.0 b.0 b.1 ∙ bind_is (R name b.0) _ v rest _ (name_complete most r sub v b.0 rest b.2) refl)
  loop_vars_complete (u ∷ (v ∷ (x ∷ xs))) i rest l h c = absurd l

  foreach_complete : (at : ℕ) (a : ExprTree) (vars : List ℕ) (body : SetTree) (i rest : List Tok) → length i ≤ most + length rest → IsItem (foreach at a vars body) → item_height (foreach at a vars body) ≤ suc r → FitEach i (item_spelling (foreach at a vars body)) rest
      → (set_takes_else body ≡ true → NotElse (lexeme_at rest)) → R foreach_item i ≡ Ok ((foreach at a vars body, item_height (foreach at a vars body)), rest)
  unfolding foreach_item same_mark
  foreach_complete at a vars body i rest few l low h closed =
      let es5 = mark m.CloseParen ∷ set_spelling body in
      let es4 = mark m.CloseBracket ∷ es5 in
      let es3 = names_listed vars ++ es4 in
      let es2 = mark m.OpenBracket ∷ es3 in
      let pos = height_pos a in
      let n = enters 1 at i rest (lexeme.Word w.Foreach) (mark m.OpenParen ∷ (expr_spelling a ++ es2)) (omega (arith, pos, low)) h in
      let o = takes_parts n.0 (mark m.OpenParen ∷ []) (expr_spelling a ++ es2) rest n.2 in
      let p = takes_parts o.0 (expr_spelling a) es2 rest o.2 in
      let p2 = takes_parts p.0 (mark m.OpenBracket ∷ []) es3 rest p.2 in
      let p3 = takes_parts p2.0 (names_listed vars) es4 rest p2.2 in
      let p4 = takes_parts p3.0 (mark m.CloseBracket ∷ []) es5 rest p3.2 in
      let p5 = takes_parts p4.0 (mark m.CloseParen ∷ []) (set_spelling body) rest p4.2 in
      let a1 = takes_less n.0 (mark m.OpenParen ∷ []) o.0 o.1 in
      let a2 = takes_less o.0 (expr_spelling a) p.0 p.1 in
      let a3 = takes_less p.0 (mark m.OpenBracket ∷ []) p2.0 p2.1 in
      let a4 = takes_less p2.0 (names_listed vars) p3.0 p3.1 in
      let a5 = takes_less p3.0 (mark m.CloseBracket ∷ []) p4.0 p4.1 in
      let a6 = takes_less p4.0 (mark m.CloseParen ∷ []) p5.0 p5.1 in
      let z1 = takes_less p.0 es2 rest p.2 in
      let shorter = n.3 in
      bind_is (entered r 1 i) _ at n.0 _ n.1
      (bind_is (R (expect (f.Mark m.OpenParen)) n.0) _ tt o.0 _ (expects most r sub (f.Mark m.OpenParen) n.0 o.0 o.1)
      (bind_is (node most r a_path o.0) _ (a, expr_height a) p.0 _ ((a_path_complete most r roomy).at a o.0 p.0 (omega (arith, few, a1, z1, shorter)) l.0 (omega (arith, low)) p.1 (subst NotDot (sym (lexeme_of p.0 rest (lexeme.Mark m.OpenBracket) es3 p.2)) bracket_follows))
      (bind_is (R (expect (f.Mark m.OpenBracket)) p.0) _ tt p2.0 _ (expects most r sub (f.Mark m.OpenBracket) p.0 p2.0 p2.1)
      (bind_is (R loop_vars p2.0) _ vars p3.0 _ (loop_vars_complete vars p2.0 p3.0 l.1 p3.1 (ap (is_fixed (f.Mark m.Comma)) (lexeme_of p3.0 rest (lexeme.Mark m.CloseBracket) es5 p3.2)))
      (bind_is (R (expect (f.Mark m.CloseBracket)) p3.0) _ tt p4.0 _ (expects most r sub (f.Mark m.CloseBracket) p3.0 p4.0 p4.1)
      (bind_is (R (expect (f.Mark m.CloseParen)) p4.0) _ tt p5.0 _ (expects most r sub (f.Mark m.CloseParen) p4.0 p5.0 p5.1)
      (bind_is (R item_set p5.0) _ (body, set_height body) rest _ (set_complete most r below ok body p5.0 rest (omega (arith, few, a1, a2, a3, a4, a5, a6, shorter)) l.2 (omega (arith, low)) p5.2 closed) refl)))))))

  disable_complete : (at : ℕ) (a : ExprTree) (i rest : List Tok) → length i ≤ most + length rest → IsMember a → item_height (disable at a) ≤ suc r → FitEach i (item_spelling (disable at a)) rest → R disable_item i ≡ Ok ((disable at a, item_height (disable at a)), rest)
  unfolding disable_item
  disable_complete at a i rest few l low h =
      let es = mark m.Semicolon ∷ [] in
      let pos = height_pos a in
      let n = enters 1 at i rest (lexeme.Word w.Disable) (word w.Soft ∷ (expr_spelling a ++ es)) (omega (arith, pos, low)) h in
      let o = takes_parts n.0 (word w.Soft ∷ []) (expr_spelling a ++ es) rest n.2 in
      let p = takes_parts o.0 (expr_spelling a) es rest o.2 in
      let a1 = takes_less n.0 (word w.Soft ∷ []) o.0 o.1 in
      let z1 = takes_less p.0 es rest p.2 in
      let shorter = n.3 in
      bind_is (entered r 1 i) _ at n.0 _ n.1
      (bind_is (R (expect (f.Word w.Soft)) n.0) _ tt o.0 _ (expects most r sub (f.Word w.Soft) n.0 o.0 o.1)
      (bind_is (node most r a_member o.0) _ (a, expr_height a) p.0 _ ((a_member_complete most r roomy).at a o.0 p.0 (omega (arith, few, a1, z1, shorter)) l (omega (arith, low)) p.1 (of_token NotSelect (lexeme.Mark m.Semicolon) end_follows.0 (lexeme_at p.0) (lexeme_of p.0 rest (lexeme.Mark m.Semicolon) [] p.2)))
      (bind_is (R (expect (f.Mark m.Semicolon)) p.0) _ tt rest _ (expects most r sub (f.Mark m.Semicolon) p.0 rest p.2) refl)))

  solve_complete : (at : ℕ) (xs zs : List ExprTree) (i rest : List Tok) → length i ≤ most + length rest → ArePaths (exprs_of xs) → ArePaths (exprs_of zs) → exprs_height (exprs_of xs) ≤ r → exprs_height (exprs_of zs) ≤ r
      → FitEach i (item_spelling (solve at (exprs_of xs) (exprs_of zs))) rest → R solve_item i ≡ Ok ((solve at (exprs_of xs) (exprs_of zs), item_height (solve at (exprs_of xs) (exprs_of zs))), rest)
  unfolding solve_item
  solve_complete at xs zs i rest few lx lz lowx lowz h =
      let ox = paths_are xs lx in
      let oz = paths_are zs lz in
      let high = exprs_height_is xs in
      let high2 = exprs_height_is zs in
      let pos = greatest_pos IsPath xs ox in
      let es3 = mark m.Semicolon ∷ [] in
      let es2 = word w.Before ∷ (exprs_spelling (exprs_of zs) ++ es3) in
      let n = enters 1 at i rest (lexeme.Word w.Solve) (exprs_spelling (exprs_of xs) ++ es2) (omega (arith, pos, lowx, high)) h in
      let p = takes_parts n.0 (exprs_spelling (exprs_of xs)) es2 rest n.2 in
      let o = takes_parts p.0 (word w.Before ∷ []) (exprs_spelling (exprs_of zs) ++ es3) rest p.2 in
      let q = takes_parts o.0 (exprs_spelling (exprs_of zs)) es3 rest o.2 in
      let a1 = takes_less n.0 (exprs_spelling (exprs_of xs)) p.0 p.1 in
      let a2 = takes_less p.0 (word w.Before ∷ []) o.0 o.1 in
      let z1 = takes_less p.0 es2 rest p.2 in
      let z2 = takes_less q.0 es3 rest q.2 in
      let shorter = n.3 in
      bind_is (entered r 1 i) _ at n.0 _ n.1
      (bind_is (R (listing (call (a_node a_path))) n.0) _ (xs, greatest expr_height xs) p.0 _
      ((paths_complete most r roomy below (of_token NotDot (lexeme.Word w.Before) before_follows.0) (of_token NotComma (lexeme.Word w.Before) before_follows.1)).at xs n.0 p.0 (omega (arith, few, z1, shorter)) ox (omega (arith, lowx, high))
      (subst (λ es. FitEach n.0 es p.0) (exprs_spelling_is xs) p.1) (lexeme_of p.0 rest (lexeme.Word w.Before) (exprs_spelling (exprs_of zs) ++ es3) p.2))
      (bind_is (R (expect (f.Word w.Before)) p.0) _ tt o.0 _ (expects most r sub (f.Word w.Before) p.0 o.0 o.1)
      (bind_is (R (listing (call (a_node a_path))) o.0) _ (zs, greatest expr_height zs) q.0 _
      ((paths_complete most r roomy below (of_token NotDot (lexeme.Mark m.Semicolon) end_follows.0.0) (of_token NotComma (lexeme.Mark m.Semicolon) end_follows.1)).at zs o.0 q.0 (omega (arith, few, a1, a2, z2, shorter)) oz (omega (arith, lowz, high2))
      (subst (λ es. FitEach o.0 es q.0) (exprs_spelling_is zs) q.1) (lexeme_of q.0 rest (lexeme.Mark m.Semicolon) [] q.2))
      (bind_is (R (expect (f.Mark m.Semicolon)) q.0) _ tt rest _ (expects most r sub (f.Mark m.Semicolon) q.0 rest q.2)
      (ap (λ v. Ok ((solve at (exprs_of xs) (exprs_of zs), max v (greatest expr_height zs) + 1), rest)) (sym high)
      ∙ ap (λ v. Ok ((solve at (exprs_of xs) (exprs_of zs), max (exprs_height (exprs_of xs)) v + 1), rest)) (sym high2))))))

  pub solve_any : (at : ℕ) (first later : ExprTrees) (i rest : List Tok) → length i ≤ most + length rest → ArePaths first → ArePaths later → exprs_height first ≤ r → exprs_height later ≤ r → FitEach i (item_spelling (solve at first later)) rest
      → R solve_item i ≡ Ok ((solve at first later, item_height (solve at first later)), rest)
  solve_any at first later i rest few lx lz lowx lowz h =
      let back = sym (list_is first) in
      let back2 = sym (list_is later) in
      subst (λ z. R solve_item i ≡ Ok ((solve at z later, item_height (solve at z later)), rest)) (list_is first)
      (subst (λ z. R solve_item i ≡ Ok ((solve at (exprs_of (list_of first)) z, item_height (solve at (exprs_of (list_of first)) z)), rest)) (list_is later)
      (solve_complete at (list_of first) (list_of later) i rest few (subst ArePaths back lx) (subst ArePaths back2 lz) (subst (λ z. exprs_height z ≤ r) back lowx) (subst (λ z. exprs_height z ≤ r) back2 lowz)
      (subst (λ z. FitEach i (item_spelling (solve at (exprs_of (list_of first)) z)) rest) back2 (subst (λ z. FitEach i (item_spelling (solve at z later)) rest) back h))))

  -- ---- items

  by_start : (q : Option Lexeme) (i : List Tok) → expr_starts q ≡ true → R (item_by q) i ≡ R expr_item i
  by_start (Some (lexeme.Word w.Soft)) i s = absurd (cc)
  by_start (Some (lexeme.Word w.Unique)) i s = absurd (cc)
  by_start (Some (lexeme.Word w.If)) i s = absurd (cc)
  by_start (Some (lexeme.Word w.Foreach)) i s = absurd (cc)
  by_start (Some (lexeme.Word w.Disable)) i s = absurd (cc)
  by_start _ i s = refl

  by_expr : (e : ExprTree) (i rest : List Tok) (es : List Entry) → IsExpr e → FitEach i (expr_spelling e ++ es) rest → R item_in i ≡ R expr_item i
  unfolding item_in
  by_expr e i rest es l h = let p = takes_parts i (expr_spelling e) es rest h in by_start (lexeme_at i) i (begins e i p.0 l p.1).first

  by_word : (q : Lexeme) (at : ℕ) (i rest : List Tok) (es : List Entry) → FitEach i (On at q ∷ es) rest → R item_in i ≡ R (item_by (Some q)) i
  unfolding item_in
  by_word q at i rest es h = ap (λ v. R (item_by v) i) (lexeme_on i rest at q es h)

  pub item_in_complete : CompletesItems IsItem most (suc r) (R item_in)
  item_in_complete (plain at true e d) i rest few l low h closed = by_word (lexeme.Word w.Soft) at i rest (expr_spelling e ++ (dist_spelling d ++ mark m.Semicolon ∷ [])) h ∙ soft_complete at e d i rest few l low h
  item_in_complete (plain at false e d) i rest few l low h closed = by_expr e i rest (dist_spelling d ++ mark m.Semicolon ∷ []) l.1 h ∙ expr_item_complete at e d i rest few l low h
  item_in_complete (unique at members) i rest few l low h closed =
      by_word (lexeme.Word w.Unique) at i rest (mark m.OpenBrace ∷ (exprs_spelling members ++ mark m.CloseBrace ∷ (mark m.Semicolon ∷ []))) h ∙ unique_any at members i rest few l (omega (arith, low)) h
  item_in_complete (implies at t body) i rest few l low h closed = by_expr t i rest (mark m.Arrow ∷ set_spelling body) l.1 h ∙ implies_on_complete at t body i rest few l low h closed
  item_in_complete (branch at t met unmet) i rest few l low h closed =
      by_word (lexeme.Word w.If) at i rest (mark m.OpenParen ∷ (expr_spelling t ++ mark m.CloseParen ∷ (set_spelling met ++ else_spelling unmet))) h ∙ branch_complete at t met unmet i rest few l low h closed
  item_in_complete (foreach at a vars body) i rest few l low h closed =
      by_word (lexeme.Word w.Foreach) at i rest (mark m.OpenParen ∷ (expr_spelling a ++ mark m.OpenBracket ∷ (names_listed vars ++ mark m.CloseBracket ∷ (mark m.CloseParen ∷ set_spelling body)))) h ∙ foreach_complete at a vars body i rest few l low h closed
  item_in_complete (disable at target) i rest few l low h closed = by_word (lexeme.Word w.Disable) at i rest (word w.Soft ∷ (expr_spelling target ++ mark m.Semicolon ∷ [])) h ∙ disable_complete at target i rest few l low h
  item_in_complete (solve at first later) i rest few l low h closed = absurd l

  pub block_word : (at : ℕ) (i rest : List Tok) (es : List Entry) → FitEach i (On at (lexeme.Word w.Solve) ∷ es) rest → R block_item_in i ≡ R solve_item i
  unfolding block_item_in
  block_word at i rest es h = ap (λ v. R (block_item_by v) i) (lexeme_on i rest at (lexeme.Word w.Solve) es h)

-- Expressions as whole right sides: which paths were read, and what `path.randomize()` may not be.
use Rattle.std.proofs.Common.{◌≡◌, ℕ, zero, suc, ◌+◌, ◌<◌, true, false, List, [], ◌∷◌, ◌++◌, length, Some, Ok, refl, sym, ◌∙◌, ap, subst, arith}
use Rattle.svr_token.specs.declared.NameKind.{NameKind}
use Rattle.svr_tree.specs.declared.expr.Scope.{Scope}
use Rattle.svr_tree.specs.Tokens.{Tok, FitEach, mark}
use Rattle.svr_tree.specs.ExprTree.{ExprTree, path}
use Rattle.svr_tree.specs.ExprGrammar.{names_spelling, scope_spelling, expr_spelling, level, IsPathAt, IsExpr}
use Rattle.svr_tree.specs.StmtGrammar.{other_names, value_spelling}
use Rattle.svr_token.specs.declared.Mark.TheVariants as m
use Rattle.svr_token.specs.declared.Lexeme.TheVariants as lexeme
use Rattle.svr_reader.specs.Outcomes.{Turn, go, done, Outcome, lexeme_at, number_at, turns, entered}
use Rattle.svr_reader.specs.declared.fixed.Fixed.TheVariants as f
use Rattle.svr_tree.specs.Operators.{least_right}
use Rattle.svr_reader.specs.Program.{pure, bind, run}
use Rattle.svr_reader.specs.Steps.{is_fixed, same_mark}
use Rattle.svr_reader.specs.Lists.{WithHeight}
use Rattle.svr_reader.proofs.Steps.{bind_ok, takes_append, takes_parts, lexeme_of, turn_ok, entered_ok, choose_true}
use Rattle.svr_reader.proofs.Local.{local_run, local_turns}
use Rattle.svr_reader.proofs.Growth.{Grown}
use Rattle.svr_reader.proofs.Live.{ok_shorter}
use Rattle.svr_expr.specs.declared.connective.Connective.{Connective}
use Rattle.svr_expr.specs.Connectives.{connective_of, connective_level}
use Rattle.svr_expr.specs.ExprRules.{extend, extend_by, climb_by, climb_step, climb, rest_of_operand, node, expr, a_known_path, path_starts, with_parens}
use Rattle.svr_expr_laws.proofs.Connectives.{connective_pos, connective_low, goes}
use Rattle.svr_expr_laws.proofs.Trees.{parens}
use Rattle.svr_expr_laws.proofs.Names.{names_known, forget_kind, some_kind, KnownPath}
use Rattle.svr_expr_laws.proofs.Sound.{IsLeft, a_known_path_sound}
use Rattle.svr_expr.proofs.Local.{local_expr}
use Rattle.svr_expr_laws.proofs.Growth.{grows_known_path}
use Rattle.svr_expr_laws.proofs.CompleteParts.{selectable_first}
use Rattle.svr_expr_laws.proofs.Nodes.{NotDot, a_known_path_complete}
use Rattle.svr_stmt.specs.declared.method.Method.TheVariants as built
use Rattle.svr_stmt.specs.StmtRules.{path_method}
use Rattle.svr_stmt_laws.proofs.Methods.{others_of}

-- ---- a path that was read is the one that the tokens spell

pub known_once : (most r : ℕ) (i : List Tok) (p : ExprTree × NameKind) (j : List Tok) → a_known_path most r i ≡ Ok (p, j)
    → (at : ℕ) (s : Scope) (names : List ℕ) (k : NameKind) (mid : List Tok) → IsPathAt at s names → FitEach i (scope_spelling at s ++ names_known names k) mid → NotDot (lexeme_at mid)
    → (p ≡ (path at s names false, k)) × (j ≡ mid)
known_once most r i p j h at s names k mid good takes c =
    let fits = (a_known_path_sound most r i p j h).1 in
    let more : ℕ = most + length i in
    let grown : Grown false (a_known_path most r i) (a_known_path more r i) = (grows_known_path false most more r r (omega arith) refl).at i in
    let again : a_known_path more r i ≡ Ok (p, j) = subst (λ o. Grown false o (a_known_path more r i)) h grown in
    let read = a_known_path_complete more r fits at s names k i mid (omega arith) good takes c in
    both (sym again ∙ read)
  where
    both : ◌≡◌ {A = Outcome (ExprTree × NameKind)} (Ok (p, j)) (Ok ((path at s names false, k), mid)) → (p ≡ (path at s names false, k)) × (j ≡ mid)
    both e = let pair : ◌≡◌ {A = (ExprTree × NameKind) × List Tok} (p, j) ((path at s names false, k), mid) = cc in (ap (λ z. z.0) pair, ap (λ z. z.1) pair)

pub parens_no_dot : (i rest : List Tok) → FitEach i parens rest → NotDot (lexeme_at i)
unfolding same_mark
parens_no_dot i rest h = ap (is_fixed (f.Mark m.Dot)) (lexeme_of i rest (lexeme.Mark m.OpenParen) (mark m.CloseParen ∷ []) h)

-- a path with `()` behind it was read as the path, and then `()`
pub called_once : (most r : ℕ) (i : List Tok) (p : ExprTree × NameKind) (mid : List Tok) → a_known_path most r i ≡ Ok (p, mid)
    → (at : ℕ) (s : Scope) (names : List ℕ) (j : List Tok) → IsPathAt at s names → FitEach i (expr_spelling (path at s names true)) j
    → (k : NameKind) × (p ≡ (path at s names false, k)) × FitEach i (scope_spelling at s ++ names_known names k) mid × FitEach mid parens j
called_once most r i p mid h at s [] j good takes = absurd good
called_once most r i p mid h at s (n ∷ ns) j good takes =
    let q = takes_parts i (scope_spelling at s) (names_spelling (n ∷ ns) ++ parens) j takes in
    let q2 = takes_parts q.0 (names_spelling (n ∷ ns)) parens j q.2 in
    let d = some_kind n ns q.0 q2.0 q2.1 in
    let known = takes_append i (scope_spelling at s) (names_known (n ∷ ns) d.0) q.0 q2.0 q.1 d.1 in
    let same = known_once most r i p mid h at s (n ∷ ns) d.0 q2.0 good known (parens_no_dot q2.0 j q2.2) in
    (d.0, same.0, subst (λ z. FitEach i (scope_spelling at s ++ names_known (n ∷ ns) d.0) z) (sym same.1) known, subst (λ z. FitEach z parens j) (sym same.1) q2.2)

-- ---- an expression that is a whole right side

-- behind a path that was read: it is no call
pub value_takes : (most r : ℕ) (i : List Tok) (p : ExprTree × NameKind) (mid : List Tok) → a_known_path most r i ≡ Ok (p, mid) → (e : ExprTree) (j : List Tok) → IsExpr e → FitEach i (expr_spelling e) j
    → (path_method p ≡ Some built.Randomize → FitEach mid parens j → ⊥) → FitEach i (value_spelling e) j
value_takes most r i p mid h (path at s names true) j is takes w =
    let d = called_once most r i p mid h at s names j is takes in
    let q = takes_parts i (scope_spelling at s) (names_known names d.0) mid d.2 in
    let other = others_of at s names d.0 q.0 mid (λ e. w (ap path_method d.1 ∙ e) d.3) q.2 in
    takes_append i (scope_spelling at s) (other_names names ++ parens) q.0 j q.1 (takes_append q.0 (other_names names) parens mid j other d.3)
value_takes most r i p mid h e j is takes w = takes

-- where no path begins
pub plain_takes : (e : ExprTree) (i j : List Tok) → path_starts (lexeme_at i) ≡ false → IsExpr e → FitEach i (expr_spelling e) j → FitEach i (value_spelling e) j
plain_takes (path at s names true) i j none is takes =
    let q = takes_parts i (scope_spelling at s) (names_spelling names ++ parens) j takes in
    let q2 = takes_parts q.0 (names_spelling names) parens j q.2 in
    let bare = takes_append i (scope_spelling at s) (names_spelling names ++ []) q.0 q2.0 q.1 (takes_append q.0 (names_spelling names) [] q2.0 q2.0 q2.1 refl) in
    let some = selectable_first (path at s names false) i q2.0 is refl bare in absurd (cc)
plain_takes e i j none is takes = takes

-- ---- operands that were read already

-- a path with `()` behind it
pub left_called : (r : ℕ) (i : List Tok) (p : ExprTree × NameKind) (mid j : List Tok) → KnownPath i p mid → FitEach mid parens j → IsLeft r (number_at i) 1 i (with_parens p.0, 1) j
left_called r i p mid j d h = subst (λ z. IsLeft r (number_at i) 1 i (with_parens z, 1) j) (sym d.is) (record {
  takes = spelled (takes_parts i (scope_spelling d.at d.scope) (names_known d.names p.1) mid d.takes);
  is = d.good;
  above = omega arith;
  height = refl;
  low = omega arith;
  begins = d.begins;
})
  where
    spelled : (q : List Tok) × FitEach i (scope_spelling d.at d.scope) q × FitEach q (names_known d.names p.1) mid → FitEach i (expr_spelling (path d.at d.scope d.names true)) j
    spelled q = takes_append i (scope_spelling d.at d.scope) (names_spelling d.names ++ parens) q.0 j q.1 (takes_append q.0 (names_spelling d.names) parens mid j (forget_kind d.names p.1 q.0 mid q.2) h)

pub called_level : {i : List Tok} {p : ExprTree × NameKind} {j : List Tok} → KnownPath i p j → level (with_parens p.0) ≡ 13
called_level d = ap (λ z. level (with_parens z)) d.is

-- an operator that comes next is taken
pub connectives_take : (most r at : ℕ) (x : WithHeight ExprTree) (k : Connective) (i : List Tok) (y : WithHeight ExprTree) (j : List Tok) → connective_of (lexeme_at i) ≡ Some k → node most r (rest_of_operand at x) i ≡ Ok (y, j) → length j < length i
unfolding node climb climb_step extend
connectives_take most zero at x k i y j e h = absurd (cc)
connectives_take zero (suc r) at x k i y j e h = absurd (cc)
connectives_take (suc n) (suc r) at x k i y j e h =
    let pos = connective_pos k in
    let low = connective_low k in
    let onward = goes 1 14 (connective_level k) pos (omega (arith, low)) in
    let step = ap (λ o. run (suc n) r (expr (suc n) r) (climb_by at 1 (x, 14) o) i) e ∙ choose_true (suc n) r (expr (suc n) r) _ _ _ i onward in
    turn_ok (run (suc n) r (expr (suc n) r) (climb_step at 1 (x, 14)) i) (turns n (λ s. run (suc n) r (expr (suc n) r) (climb_step at 1 s))) (y, j) h
    (λ s2 mid e2 g. let less = first (go s2) mid (sym step ∙ e2) in
    let less2 = ok_shorter (turns n (λ s. run (suc n) r (expr (suc n) r) (climb_step at 1 s)) s2) (local_turns n (λ s. run (suc n) r (expr (suc n) r) (climb_step at 1 s)) (λ s. local_run (suc n) r (expr (suc n) r) (local_expr (suc n) r) (climb_step at 1 s)) s2) mid y j g in
    omega (arith, less, less2))
    (λ a mid e2 g. let less = first (done a) mid (sym step ∙ e2) in let both : ◌≡◌ {A = WithHeight ExprTree × List Tok} (a, mid) (y, j) = cc in omega (arith, less, ap (λ z. length z.1) both))
  where
    first : (v : Turn (WithHeight ExprTree × ℕ) (WithHeight ExprTree)) (mid : List Tok) → run (suc n) r (expr (suc n) r) (bind (extend at x k) (λ longer. pure (go (longer, least_right (connective_level k))))) i ≡ Ok (v, mid) → length mid < length i
    first v mid g = bind_ok (run (suc n) r (expr (suc n) r) (extend at x k) i) _ (v, mid) g (λ longer z e2 g2.
        bind_ok (entered r x.1 i) _ (longer, z) e2 (λ n0 i2 e3 g3.
        let d = entered_ok r x.1 i n0 i2 e3 in
        let less = ok_shorter (run (suc n) r (expr (suc n) r) (extend_by at x k)) (local_run (suc n) r (expr (suc n) r) (local_expr (suc n) r) (extend_by at x k)) i2 longer z g3 in
        let both : ◌≡◌ {A = Turn (WithHeight ExprTree × ℕ) (WithHeight ExprTree) × List Tok} (go (longer, least_right (connective_level k)), z) (v, mid) = cc in
        omega (arith, less, ap length d.is, ap (λ u. length u.1) both)))

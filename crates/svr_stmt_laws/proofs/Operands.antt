-- Expressions that are whole right sides, the way back: behind which path they stand.
use Rattle.std.proofs.Common.{◌≡◌, ℕ, zero, suc, ◌≤◌, true, false, List, [], ◌∷◌, ◌++◌, Some, None, Ok, refl, sym, ◌∙◌, ap, subst, arith}
use Rattle.svr_token.specs.declared.Lexeme.TheVariants as lexeme
use Rattle.svr_token.specs.declared.Mark.TheVariants as m
use Rattle.svr_token.specs.declared.NameKind.{NameKind}
use Rattle.svr_token.specs.declared.NameKind.TheVariants as name_kind
use Rattle.svr_tree.specs.declared.expr.Scope.{Scope}
use Rattle.svr_tree.specs.Tokens.{Tok, FitEach, mark}
use Rattle.svr_tree.specs.ExprTree.{ExprTree, path}
use Rattle.svr_tree.specs.ExprGrammar.{names_spelling, scope_spelling, expr_spelling, IsPathAt, IsExpr}
use Rattle.svr_tree.specs.StmtGrammar.{other_names, value_spelling}
use Rattle.svr_reader.specs.Outcomes.{done, lexeme_at, turned, turns}
use Rattle.svr_reader.specs.declared.fixed.Fixed.TheVariants as f
use Rattle.svr_reader.specs.Program.{run, expect}
use Rattle.svr_reader.specs.Lists.{WithHeight}
use Rattle.svr_reader.proofs.Steps.{bind_ok, bind_is, takes_append, takes_parts, expect_ok}
use Rattle.svr_expr.specs.Connectives.{connective_of}
use Rattle.svr_expr.specs.ExprRules.{fold_of, path_fold, path_on_by, path_rest, with_parens, parens_on, suffix_by, suffix_step, with_suffixes, climb_by, climb_step, climb, rest_of_path, rest_of_operand, node, expr, a_known_path}
use Rattle.svr_expr_laws.proofs.Trees.{parens}
use Rattle.svr_expr_laws.proofs.Nodes.{connectives_are}
use Rattle.svr_expr_laws.proofs.Names.{names_known, forget_kind, KnownPath}
use Rattle.svr_expr_laws.proofs.Sound.{a_known_path_sound}
use Rattle.svr_stmt.specs.declared.method.Method.{Method}
use Rattle.svr_stmt.specs.declared.method.Method.TheVariants as built
use Rattle.svr_stmt.specs.StmtRules.{method_of, path_method}
use Rattle.svr_stmt_laws.proofs.Methods.{of_others}
use Rattle.svr_stmt_laws.proofs.Values.{known_once, parens_no_dot}

-- a whole right side is an expression
pub value_plain : (e : ExprTree) (i j : List Tok) → IsExpr e → FitEach i (value_spelling e) j → FitEach i (expr_spelling e) j
value_plain (path at s [] true) i j is h = absurd is
value_plain (path at s (n ∷ ns) true) i j is h =
    let q = takes_parts i (scope_spelling at s) (other_names (n ∷ ns) ++ parens) j h in
    let q2 = takes_parts q.0 (other_names (n ∷ ns)) parens j q.2 in
    let d = of_others at s n ns q.0 q2.0 q2.1 in
    takes_append i (scope_spelling at s) (names_spelling (n ∷ ns) ++ parens) q.0 j q.1 (takes_append q.0 (names_spelling (n ∷ ns)) parens q2.0 j (forget_kind (n ∷ ns) d.0 q.0 q2.0 d.1) q2.2)
value_plain e i j is h = h

-- none is `path.randomize()`
pub no_call : (most r : ℕ) (i : List Tok) (p : ExprTree × NameKind) (mid : List Tok) → a_known_path most r i ≡ Ok (p, mid) → (j : List Tok) → FitEach i (value_spelling (with_parens p.0)) j → path_method p ≡ Some built.Randomize → ⊥
no_call most r i p mid h j t e =
    let d = (a_known_path_sound most r i p mid h).0 in
    by d.at d.scope d.names d.good (subst (λ z. FitEach i (value_spelling (with_parens z)) j) d.is t)
  where
    by : (at : ℕ) (s : Scope) (names : List ℕ) → IsPathAt at s names → FitEach i (value_spelling (path at s names true)) j → ⊥
    by at s [] good t = absurd good
    by at s (n ∷ ns) good t =
        let q = takes_parts i (scope_spelling at s) (other_names (n ∷ ns) ++ parens) j t in
        let q2 = takes_parts q.0 (other_names (n ∷ ns)) parens j q.2 in
        let o = of_others at s n ns q.0 q2.0 q2.1 in
        let same = known_once most r i p mid h at s (n ∷ ns) o.0 q2.0 good (takes_append i (scope_spelling at s) (names_known (n ∷ ns) o.0) q.0 q2.0 q.1 o.1) (parens_no_dot q2.0 j q2.2) in
        o.2 (sym (ap path_method same.0) ∙ e)

-- a name that a statement knows is no reduction
kind_no_fold : (k : NameKind) (e : Method) → method_of k ≡ Some e → fold_of k ≡ None
kind_no_fold name_kind.Plain e h = refl
kind_no_fold name_kind.Randomize e h = refl
kind_no_fold name_kind.RandMode e h = refl
kind_no_fold name_kind.ConstraintMode e h = refl
kind_no_fold name_kind.Sum e h = absurd (cc)
kind_no_fold name_kind.Product e h = absurd (cc)
kind_no_fold name_kind.And e h = absurd (cc)
kind_no_fold name_kind.Or e h = absurd (cc)
kind_no_fold name_kind.Xor e h = absurd (cc)

pub no_fold : (p : ExprTree × NameKind) (e : Method) → path_method p ≡ Some e → path_fold p ≡ None
no_fold (path at s (n ∷ (o ∷ ns)) c, k) e h = kind_no_fold k e h
no_fold _ e h = refl

suffix_parens : (most r at : ℕ) (x : WithHeight ExprTree) (i mid : List Tok) (w : WithHeight ExprTree) (j1 : List Tok) → FitEach i (mark m.OpenParen ∷ []) mid → run most r (expr most r) (with_suffixes at x) i ≡ Ok (w, j1) → (z : List Tok) × FitEach mid (mark m.CloseParen ∷ []) z
unfolding with_suffixes suffix_step parens_on
suffix_parens zero r at x i mid w j1 h e1 = absurd (cc)
suffix_parens (suc n) r at x [] mid w j1 h e1 = absurd h
suffix_parens (suc n) r at x (t ∷ i) mid w j1 h e1 =
    bind_ok (run (suc n) r (expr (suc n) r) (suffix_step at x) (t ∷ i)) _ (w, j1) e1 (λ v j2 e2 g2.
    let step : run (suc n) r (expr (suc n) r) (suffix_by at x (Some (lexeme.Mark m.OpenParen))) (t ∷ i) ≡ Ok (v, j2) = sym (ap (λ q. run (suc n) r (expr (suc n) r) (suffix_by at x (Some q)) (t ∷ i)) h.0) ∙ e2 in
    bind_ok (run (suc n) r (expr (suc n) r) (parens_on x) (t ∷ i)) _ (v, j2) step (λ longer j3 e3 g3.
    bind_ok (run (suc n) r (expr (suc n) r) (expect (f.Mark m.CloseParen)) i) _ (longer, j3) e3 (λ u j4 e4 g4.
    (j4, subst (λ z. FitEach z (mark m.CloseParen ∷ []) j4) h.1 (expect_ok (suc n) r (expr (suc n) r) (f.Mark m.CloseParen) i (u, j4) e4)))))

-- `(` behind a path goes on with `)`, unless the path ends with the name of a reduction
pub rest_parens : (most r at : ℕ) (p : ExprTree × NameKind) (i mid : List Tok) (y : WithHeight ExprTree) (j : List Tok) → path_fold p ≡ None → FitEach i (mark m.OpenParen ∷ []) mid → node most r (rest_of_path at p) i ≡ Ok (y, j) → (z : List Tok) × FitEach mid (mark m.CloseParen ∷ []) z
unfolding node path_rest
rest_parens most zero at p i mid y j none h e = absurd (cc)
rest_parens most (suc r) at p i mid y j none h e =
    bind_ok (run most r (expr most r) (path_on_by at p.0 (path_fold p)) i) _ (y, j) e (λ w j1 e1 g1.
    suffix_parens most r at (p.0, 1) i mid w j1 h (sym (ap (λ o. run most r (expr most r) (path_on_by at p.0 o) i) none) ∙ e1))

-- behind the `()` of a path that was read only connectives may stand
pub connectives_behind : (most r at : ℕ) (i : List Tok) (p : ExprTree × NameKind) (mid z : List Tok) → a_known_path most r i ≡ Ok (p, mid) → path_fold p ≡ None → 1 ≤ r → 1 ≤ most → FitEach mid parens z
    → node most r (rest_of_path at p) mid ≡ node most r (rest_of_operand at (with_parens p.0, 1)) z
connectives_behind most r at i p mid z known none fits some opened =
    let d = (a_known_path_sound most r i p mid known).0 in by p.0 p.1 d.at d.scope d.names d.is none
  where
    by : (e : ExprTree) (k : NameKind) (at2 : ℕ) (s : Scope) (names : List ℕ) → e ≡ path at2 s names false → path_fold (e, k) ≡ None → node most r (rest_of_path at (e, k)) mid ≡ node most r (rest_of_operand at (with_parens e, 1)) z
    by e k at2 s names is free = subst (λ v. path_fold (v, k) ≡ None → node most r (rest_of_path at (v, k)) mid ≡ node most r (rest_of_operand at (with_parens v, 1)) z) (sym is) (λ w. connectives_are most r at at2 s names k mid z w fits some opened) free

-- where no operator follows, an operand ends
pub connectives_stop : (most r at : ℕ) (x : WithHeight ExprTree) (i : List Tok) → 1 ≤ most → 1 ≤ r → connective_of (lexeme_at i) ≡ None → node most r (rest_of_operand at x) i ≡ Ok (x, i)
unfolding node climb climb_step
connectives_stop most zero at x i some fits e = absurd (omega (arith, fits))
connectives_stop zero (suc r) at x i some fits e = absurd (omega (arith, some))
connectives_stop (suc n) (suc r) at x i some fits e = bind_is (run (suc n) r (expr (suc n) r) (climb_step at 1 (x, 14)) i) (turned (turns n (λ s. run (suc n) r (expr (suc n) r) (climb_step at 1 s)))) (done x) i _
    (ap (λ o. run (suc n) r (expr (suc n) r) (climb_by at 1 (x, 14) o) i) e) refl

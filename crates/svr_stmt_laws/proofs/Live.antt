-- Where the reading of a statement fails, what was read so far can be completed.
use Rattle.std.proofs.Common.{◌≡◌, ℕ, zero, suc, ◌≤◌, false, [], ◌∷◌, Option, Some, None, inl, refl, sym, ap, subst, arith}
use Rattle.svr_token.specs.declared.Lexeme.{Lexeme}
use Rattle.svr_token.specs.declared.Lexeme.TheVariants as lexeme
use Rattle.svr_token.specs.declared.Word.TheVariants as w
use Rattle.svr_token.specs.declared.Mark.TheVariants as m
use Rattle.svr_token.specs.declared.NameKind.{NameKind}
use Rattle.svr_token.specs.declared.NameKind.TheVariants as name_kind
use Rattle.svr_tree.specs.declared.stmt.ModeKind.{ModeKind}
use Rattle.svr_tree.specs.declared.stmt.RandomizeArgs.TheVariants as args
use Rattle.svr_tree.specs.declared.stmt.CallForm.{CallForm}
use Rattle.svr_tree.specs.declared.stmt.CallForm.TheVariants as form
use Rattle.svr_tree.specs.ExprTree.{ExprTree}
use Rattle.svr_tree.specs.StmtTree as tree
use Rattle.svr_tree.specs.StmtTree.{StmtTree}
use Rattle.svr_reader.specs.Outcomes.{lexeme_at}
use Rattle.svr_reader.specs.declared.fixed.Fixed.TheVariants as f
use Rattle.svr_reader.specs.Program.{call}
use Rattle.svr_reader.specs.Steps.{same_mark, is_fixed}
use Rattle.svr_reader.specs.Lists.{WithHeight}
use Rattle.svr_reader.proofs.Rooms.{none_later, none_never}
use Rattle.svr_reader.proofs.Live.{AnyToken}
use Rattle.svr_reader.proofs.Goals.{Goal, Form, then_goal, then_form, goal_of, pure_goal, enter_form, peek_form, here_form, wide_goal}
use Rattle.svr_reader.proofs.Led.{AnyAnswer, tok, goal_expect, name_tok}
use Rattle.svr_reader.proofs.LiveLists.{until_goal}
use Rattle.svr_reader.proofs.Layers.{IsViable, IsOpen, Low, Part, form_of, open_of}
use Rattle.svr_expr.specs.ExprRules.{an_expr, expr, a_known_path, path_starts}
use Rattle.svr_expr.proofs.Local.{local_expr}
use Rattle.svr_expr_laws.proofs.Nodes.{NotDot, name_expr}
use Rattle.svr_expr_laws.proofs.LiveParts.{Closes}
use Rattle.svr_expr_laws.proofs.Live.{live_known_path, expr_open}
use Rattle.svr_item_laws.proofs.LiveLed.{led_goal}
use Rattle.svr_stmt.specs.declared.method.Method.{Method}
use Rattle.svr_stmt.specs.declared.method.Method.TheVariants as built
use Rattle.svr_stmt.specs.StmtRules.{a_node, a_path_here, a_path_behind, indices, a_stmt, Rule, path_method, whole_call, assign_on, call_on, mode_on, method_by, behind_by, behind_target, path_stmt, stmt_from, empty_stmt, block_stmt, repeat_stmt, enclosed_call, void_stmt, assert_stmt, stmt_by, stmt_in, stmt_starts, a_path_on, part, stmt, stmt_on}
use Rattle.svr_stmt_laws.proofs.Paths.{member_on_open, path_on_goal}
use Rattle.svr_stmt_laws.proofs.Sets.{SetLaws}
use Rattle.svr_stmt_laws.proofs.Growth.{local_parts}
use Rattle.svr_stmt_laws.proofs.Complete.{stmt_complete}
use Rattle.svr_stmt_laws.proofs.CompleteCalls.{NotWith, whole_call_complete}
use Rattle.svr_stmt_laws.proofs.CompleteRights.{Semi, semi_no_with}
use Rattle.svr_stmt_laws.proofs.LiveFork.{viable_of}
use Rattle.svr_stmt_laws.proofs.LiveCalls.{on_goal, whole_call_form}
use Rattle.svr_stmt_laws.proofs.LiveRights.{right_goal}

-- what follows the target of an assignment
abbrev Assigns : Option Lexeme → Type 0
Assigns q = q ≡ Some (lexeme.Mark m.Assign)

-- what follows a call in parentheses
abbrev Shuts : Option Lexeme → Type 0
Shuts q = q ≡ Some (lexeme.Mark m.CloseParen)

assigns_no_bracket : (q : Option Lexeme) → Assigns q → is_fixed (f.Mark m.OpenBracket) q ≡ false
unfolding same_mark
assigns_no_bracket q h = ap (is_fixed (f.Mark m.OpenBracket)) h

assigns_no_paren : (q : Option Lexeme) → Assigns q → is_fixed (f.Mark m.OpenParen) q ≡ false
unfolding same_mark
assigns_no_paren q h = ap (is_fixed (f.Mark m.OpenParen)) h

assigns_no_dot : (q : Option Lexeme) → Assigns q → NotDot q
unfolding same_mark
assigns_no_dot q h = ap (is_fixed (f.Mark m.Dot)) h

shuts_no_with : (q : Option Lexeme) → Shuts q → NotWith q
shuts_no_with q h = ap (is_fixed (f.Word w.With)) h

-- a path, where there is room for one
known_viable : (most r : ℕ) → 1 ≤ most → IsViable most NotDot (λ _. 1 ≤ r) (a_known_path most r)
unfolding a_known_path
known_viable most zero some = record {
  later = none_later (ExprTree × NameKind) path_starts most NotDot (λ _. 1 ≤ 0);
  settles = record { at = λ i x j lim h. absurd (none_never (ExprTree × NameKind) path_starts i (x, j) h) };
  consumes = λ i x j h. absurd (none_never (ExprTree × NameKind) path_starts i (x, j) h);
}
known_viable most (suc r) some = viable_of (live_known_path most (suc r) some) (λ _ _. omega arith)

-- a path behind its first name, before `=`
path_on_open : (most r : ℕ) (first : ℕ × NameKind) → 1 ≤ most → 1 ≤ r → IsOpen most Assigns Assigns AnyAnswer (a_path_on most r first)
unfolding a_path_on
path_on_open most zero first some fits = absurd (omega (arith, fits))
path_on_open most (suc r) first some fits = let v = path_on_goal most r (expr most r) (local_expr most r) some Assigns assigns_no_dot first in record { alive = v.alive; settles = v.settles; heads = v.heads }

module _ (sets : SetLaws) (most r : ℕ) (many : 5 ≤ most) (roomy : r ≤ most) where
  abbrev G : {X : Type 0} → (D C : Option Lexeme → Type 0) → (X → Type 0) → Rule X → Type 0
  G D C Q q = Goal most r (part most r (stmt most r)) (local_parts sets most r) D C Q q

  abbrev F : {X : Type 0} → (C : Option Lexeme → Type 0) → (X → Type 0) → Rule X → Type 0
  F C Q q = Form most r (part most r (stmt most r)) (local_parts sets most r) C Q q

  some : 1 ≤ most
  some = omega (arith, many)

  -- ---- statements that begin with a path

  module _ (fits : 1 ≤ r) where
    assign_on_goal : (at : ℕ) (p : ExprTree) → G Assigns AnyToken (Part (suc r)) (assign_on at p)
    unfolding assign_on
    assign_on_goal at p = then_goal most r (part most r (stmt most r)) (local_parts sets most r) (open_of most r (part most r (stmt most r)) (local_parts sets most r) {k = indices at (p, 1)} (member_on_open most r at (p, 1) Assigns assigns_no_bracket some roomy (omega arith, fits))) (λ target g.
        then_goal most r (part most r (stmt most r)) (local_parts sets most r) (goal_expect most r (part most r (stmt most r)) (local_parts sets most r) {D = Assigns} (f.Mark m.Assign) refl) (λ _ _.
        then_goal most r (part most r (stmt most r)) (local_parts sets most r) (right_goal sets most r fits roomy) (λ right low.
        then_goal most r (part most r (stmt most r)) (local_parts sets most r) (goal_expect most r (part most r (stmt most r)) (local_parts sets most r) {D = Semi} (f.Mark m.Semicolon) refl) (λ _ _.
        pure_goal most r (part most r (stmt most r)) (local_parts sets most r) (omega arith, omega (arith, g.1, low)) (λ _ _. tt)))))

    call_on_goal : (at : ℕ) (p : ExprTree) → G AnyToken AnyToken (Part (suc r)) (call_on at p)
    unfolding call_on
    call_on_goal at p = then_goal most r (part most r (stmt most r)) (local_parts sets most r) (on_goal sets most r fits roomy Semi semi_no_with p) (λ c g.
        then_goal most r (part most r (stmt most r)) (local_parts sets most r) (goal_expect most r (part most r (stmt most r)) (local_parts sets most r) {D = Semi} (f.Mark m.Semicolon) refl) (λ _ _.
        pure_goal most r (part most r (stmt most r)) (local_parts sets most r) (omega arith, omega (arith, g.1)) (λ _ _. tt)))

    mode_on_goal : (at : ℕ) (p : ExprTree) (k : ModeKind) → G AnyToken AnyToken (Part (suc r)) (mode_on at p k)
    unfolding mode_on
    mode_on_goal at p k = then_goal most r (part most r (stmt most r)) (local_parts sets most r) (open_of most r (part most r (stmt most r)) (local_parts sets most r) {k = a_node (an_expr 1)} (expr_open most r fits roomy {D = AnyToken} 1 (omega arith) (omega arith) tt)) (λ x g.
        then_goal most r (part most r (stmt most r)) (local_parts sets most r) (goal_expect most r (part most r (stmt most r)) (local_parts sets most r) {D = Closes} (f.Mark m.CloseParen) refl) (λ _ _.
        then_goal most r (part most r (stmt most r)) (local_parts sets most r) (goal_expect most r (part most r (stmt most r)) (local_parts sets most r) {D = AnyToken} (f.Mark m.Semicolon) tt) (λ _ _.
        pure_goal most r (part most r (stmt most r)) (local_parts sets most r) (omega arith, omega (arith, g.1, fits)) (λ _ _. tt))))

    method_goal : (at : ℕ) (p : ExprTree) (k : Method) → G AnyToken AnyToken (Part (suc r)) (method_by at p k)
    method_goal at p built.Randomize = call_on_goal at p
    method_goal at p (built.Mode k) = mode_on_goal at p k

    behind_goal : (at : ℕ) (p : ExprTree) (o : Option Method) → G Assigns AnyToken (Part (suc r)) (behind_by at p o)
    behind_goal at p None = assign_on_goal at p
    behind_goal at p (Some k) = led_goal most r (part most r (stmt most r)) (local_parts sets most r) (f.Mark m.OpenParen) (method_by at p k) (assign_on at p) Assigns AnyToken (Part (suc r)) assigns_no_paren (method_goal at p k) (assign_on_goal at p)

    pub from_goal : (first : ℕ × NameKind) → G Assigns AnyToken (Part (suc r)) (stmt_from first)
    unfolding stmt_from behind_target
    from_goal first = then_goal most r (part most r (stmt most r)) (local_parts sets most r) (open_of most r (part most r (stmt most r)) (local_parts sets most r) {k = a_path_behind first} (path_on_open most r first some fits)) (λ p _.
        behind_goal first.0 p.0 (path_method p))

    -- ---- a call in parentheses, and `;`

    abbrev least_call : tree.RandomizeTree
    least_call = record { path = name_expr; args = args.Empty; items = None }

    whole_goal : G AnyToken Shuts (Part r) whole_call
    whole_goal = goal_of most r (part most r (stmt most r)) (local_parts sets most r) (whole_call_form sets most r fits roomy Shuts shuts_no_with (omega (arith, many))) (record {
      more = name_tok ∷ (tok (lexeme.Mark m.Dot) ∷ (tok (lexeme.Name name_kind.Randomize) ∷ (tok (lexeme.Mark m.OpenParen) ∷ (tok (lexeme.Mark m.CloseParen) ∷ []))));
      x = (least_call, 1);
      good = (omega arith, fits);
      opens = λ z cl. tt;
      ends = λ z cl. (whole_call_complete sets most r roomy (stmt most r)).at least_call _ z (omega (arith, many)) ((refl, refl), tt, tt) fits (((refl, record { kind = name_kind.Plain; is = refl })), (refl, (refl, (refl, (refl, refl))))) (shuts_no_with (lexeme_at z) cl);
    })

    enclosed_goal : (at : ℕ) (k : CallForm) → G AnyToken AnyToken (Part (suc r)) (enclosed_call at k)
    unfolding enclosed_call
    enclosed_goal at k = then_goal most r (part most r (stmt most r)) (local_parts sets most r) (goal_expect most r (part most r (stmt most r)) (local_parts sets most r) {D = AnyToken} (f.Mark m.OpenParen) tt) (λ _ _.
        then_goal most r (part most r (stmt most r)) (local_parts sets most r) whole_goal (λ c g.
        then_goal most r (part most r (stmt most r)) (local_parts sets most r) (goal_expect most r (part most r (stmt most r)) (local_parts sets most r) {D = Shuts} (f.Mark m.CloseParen) refl) (λ _ _.
        then_goal most r (part most r (stmt most r)) (local_parts sets most r) (goal_expect most r (part most r (stmt most r)) (local_parts sets most r) {D = AnyToken} (f.Mark m.Semicolon) tt) (λ _ _.
        pure_goal most r (part most r (stmt most r)) (local_parts sets most r) (omega arith, omega (arith, g.1)) (λ _ _. tt)))))

  path_stmt_form : F AnyToken (Part (suc r)) path_stmt
  unfolding path_stmt behind_target
  path_stmt_form = here_form most r (part most r (stmt most r)) (local_parts sets most r) (λ at.
      then_form most r (part most r (stmt most r)) (local_parts sets most r) (form_of most r (part most r (stmt most r)) (local_parts sets most r) {k = a_path_here} (known_viable most r some)) (λ p fits.
      wide_goal most r (part most r (stmt most r)) (local_parts sets most r) (behind_goal fits at p.0 (path_method p)) assigns_no_dot))

  -- ---- statements that begin with a word or a mark

  module _ (below : IsViable most AnyToken (Part r) (stmt most r)) where
    stmt_form : F AnyToken (Low r) (call a_stmt)
    stmt_form = form_of most r (part most r (stmt most r)) (local_parts sets most r) {k = a_stmt} (viable_of below (λ x g. g.1))

    stmt_goal : 1 ≤ r → G AnyToken AnyToken (Low r) (call a_stmt)
    stmt_goal fits = goal_of most r (part most r (stmt most r)) (local_parts sets most r) stmt_form (record {
      more = tok (lexeme.Mark m.Semicolon) ∷ [];
      x = (tree.empty 0, 1);
      good = fits;
      opens = λ z cl. tt;
      ends = λ z cl. (stmt_complete sets most r roomy).at (tree.empty 0) (tok (lexeme.Mark m.Semicolon) ∷ z) z (omega (arith, many)) tt fits ((refl, refl), refl) tt;
    })

    empty_form : F AnyToken (Part (suc r)) empty_stmt
    unfolding empty_stmt
    empty_form = enter_form most r (part most r (stmt most r)) (local_parts sets most r) (omega arith) (λ _ at. pure_goal most r (part most r (stmt most r)) (local_parts sets most r) (omega arith, omega arith) (λ _ _. tt))

    block_form : F AnyToken (Part (suc r)) block_stmt
    unfolding block_stmt
    block_form = enter_form most r (part most r (stmt most r)) (local_parts sets most r) (omega arith) (λ _ at.
        then_goal most r (part most r (stmt most r)) (local_parts sets most r) (until_goal most r (part most r (stmt most r)) (local_parts sets most r) some r AnyToken (f.Word w.End) tt (call a_stmt) stmt_form) (λ ss low.
        pure_goal most r (part most r (stmt most r)) (local_parts sets most r) (omega arith, omega (arith, low)) (λ _ _. tt)))

    repeat_form : F AnyToken (Part (suc r)) repeat_stmt
    unfolding repeat_stmt
    repeat_form = enter_form most r (part most r (stmt most r)) (local_parts sets most r) (omega arith) (λ fits at.
        then_goal most r (part most r (stmt most r)) (local_parts sets most r) (goal_expect most r (part most r (stmt most r)) (local_parts sets most r) {D = AnyToken} (f.Mark m.OpenParen) tt) (λ _ _.
        then_goal most r (part most r (stmt most r)) (local_parts sets most r) (open_of most r (part most r (stmt most r)) (local_parts sets most r) {k = a_node (an_expr 1)} (expr_open most r fits roomy {D = AnyToken} 1 (omega arith) (omega arith) tt)) (λ n g.
        then_goal most r (part most r (stmt most r)) (local_parts sets most r) (goal_expect most r (part most r (stmt most r)) (local_parts sets most r) {D = Closes} (f.Mark m.CloseParen) refl) (λ _ _.
        then_goal most r (part most r (stmt most r)) (local_parts sets most r) (stmt_goal fits) (λ s low.
        pure_goal most r (part most r (stmt most r)) (local_parts sets most r) (omega arith, omega (arith, g.1, low)) (λ _ _. tt))))))

    void_form : F AnyToken (Part (suc r)) void_stmt
    unfolding void_stmt
    void_form = enter_form most r (part most r (stmt most r)) (local_parts sets most r) (omega arith) (λ fits at.
        then_goal most r (part most r (stmt most r)) (local_parts sets most r) (goal_expect most r (part most r (stmt most r)) (local_parts sets most r) {D = AnyToken} (f.Mark m.Apostrophe) tt) (λ _ _. enclosed_goal fits at form.Void))

    assert_form : F AnyToken (Part (suc r)) assert_stmt
    unfolding assert_stmt
    assert_form = enter_form most r (part most r (stmt most r)) (local_parts sets most r) (omega arith) (λ fits at. enclosed_goal fits at form.Assert)

    stmt_by_form : (q : Option Lexeme) → F AnyToken (Part (suc r)) (stmt_by q)
    stmt_by_form (Some (lexeme.Mark m.Semicolon)) = empty_form
    stmt_by_form (Some (lexeme.Word w.Begin)) = block_form
    stmt_by_form (Some (lexeme.Word w.Repeat)) = repeat_form
    stmt_by_form (Some (lexeme.Word w.Void)) = void_form
    stmt_by_form (Some (lexeme.Word w.Assert)) = assert_form
    stmt_by_form _ = path_stmt_form

    pub stmt_in_form : F AnyToken (Part (suc r)) stmt_in
    unfolding stmt_in
    stmt_in_form = peek_form most r (part most r (stmt most r)) (local_parts sets most r) stmt_by_form

-- ---- statements of every height

pub live_stmt : SetLaws → (most r : ℕ) → 5 ≤ most → r ≤ most → IsViable most AnyToken (Part r) (stmt most r)
unfolding stmt
live_stmt sets most zero many roomy = record {
  later = none_later (WithHeight StmtTree) stmt_starts most AnyToken (Part 0);
  settles = record { at = λ i x j lim h. absurd (none_never (WithHeight StmtTree) stmt_starts i (x, j) h) };
  consumes = λ i x j h. absurd (none_never (WithHeight StmtTree) stmt_starts i (x, j) h);
}
live_stmt sets most (suc r) many roomy = let v = stmt_in_form sets most r many (omega (arith, roomy)) (live_stmt sets most r many (omega (arith, roomy))) in record { later = v.later; settles = v.settles; consumes = v.consumes }

-- where there is room for one, it can be completed from its beginning on; D are the tokens that may come first
pub stmt_open : SetLaws → (most r : ℕ) → 5 ≤ most → 1 ≤ r → r ≤ most → {D : Option Lexeme → Type 0} → D (Some (lexeme.Mark m.Semicolon)) → IsOpen most D AnyToken (Part r) (stmt most r)
stmt_open sets most r many fits roomy d = let v = live_stmt sets most r many roomy in record {
  alive = record {
    fin = record {
      more = tok (lexeme.Mark m.Semicolon) ∷ [];
      x = (tree.empty 0, 1);
      good = (omega arith, fits);
      opens = λ z cl. d;
      ends = λ z cl. (stmt_complete sets most r roomy).at (tree.empty 0) (tok (lexeme.Mark m.Semicolon) ∷ z) z (omega (arith, many)) tt fits ((refl, refl), refl) tt;
    };
    later = v.later;
  };
  settles = v.settles;
  heads = λ i y j lim h. inl (v.consumes i y j h);
}

-- the same behind a first name, where there is room for it
pub stmt_on_open : SetLaws → (most r : ℕ) (first : ℕ × NameKind) → 5 ≤ most → 2 ≤ r → r ≤ most → {D : Option Lexeme → Type 0} → D (Some (lexeme.Mark m.Assign)) → IsOpen most D AnyToken (Part r) (stmt_on most r first)
unfolding stmt_on
stmt_on_open sets most zero first many fits roomy d = absurd (omega (arith, fits))
stmt_on_open sets most (suc r) first many fits roomy {D = D} d =
    let v = wide_goal most r (part most r (stmt most r)) (local_parts sets most r) (from_goal sets most r many (omega (arith, roomy)) (omega (arith, fits)) first) (λ q h. subst D (sym h) d) in
    record { alive = v.alive; settles = v.settles; heads = v.heads }

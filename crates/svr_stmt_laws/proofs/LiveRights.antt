-- Where the reading of a right side fails, what was read so far can be completed.
use Rattle.std.proofs.Common.{◌≡◌, ℕ, ◌<◌, ◌≤◌, true, false, List, [], ◌∷◌, length, Option, Some, None, Ok, refl, ap, arith}
use Rattle.svr_token.specs.declared.Lexeme.{Lexeme}
use Rattle.svr_token.specs.declared.Lexeme.TheVariants as lexeme
use Rattle.svr_token.specs.declared.Word.TheVariants as w
use Rattle.svr_token.specs.declared.Mark.TheVariants as m
use Rattle.svr_token.specs.declared.NameKind.{NameKind}
use Rattle.svr_tree.specs.declared.stmt.RandomizeArgs.TheVariants as args
use Rattle.svr_tree.specs.Tokens.{Tok}
use Rattle.svr_tree.specs.ExprTree.{ExprTree, exprs_of}
use Rattle.svr_tree.specs.StmtTree as tree
use Rattle.svr_tree.specs.StmtTree.{RightTree, StmtTree}
use Rattle.svr_reader.specs.Outcomes.{Parser, lexeme_at}
use Rattle.svr_reader.specs.declared.fixed.Fixed.TheVariants as f
use Rattle.svr_reader.specs.Program.{pure, bind, call, run, expect}
use Rattle.svr_reader.specs.Steps.{same_mark, is_fixed}
use Rattle.svr_reader.specs.Lists.{WithHeight}
use Rattle.svr_reader.proofs.Steps.{bind_ok, led_yes}
use Rattle.svr_reader.proofs.Local.{IsLocal, local_run}
use Rattle.svr_reader.proofs.Live.{AnyToken}
use Rattle.svr_reader.proofs.Goals.{Goal, Form, then_goal, then_form, goal_of, pure_goal, take_form, peek_form, here_form, any_goal, narrow_goal, narrow_form, wide_goal}
use Rattle.svr_reader.proofs.Led.{tok, goal_expect, led_form, name_tok}
use Rattle.svr_reader.proofs.LivePeeks.{Peeks, reads, stops, peek_goal}
use Rattle.svr_reader.proofs.Layers.{Low, form_of, open_of}
use Rattle.svr_expr.specs.Connectives.{connective_of}
use Rattle.svr_expr.specs.ExprRules.{an_expr, rest_of_path, rest_of_operand, node, path_starts, owner, with_parens}
use Rattle.svr_expr_laws.proofs.Nodes.{NotDot, name_expr, name_takes}
use Rattle.svr_expr_laws.proofs.LiveParts.{Closes, ClosesList, closes_select}
use Rattle.svr_expr_laws.proofs.Live.{live_expr, live_known_path, live_exprs, expr_open, rest_open, connectives_open}
use Rattle.svr_item_laws.proofs.LiveLed.{led_goal}
use Rattle.svr_stmt.specs.declared.method.Method.{Method}
use Rattle.svr_stmt.specs.declared.method.Method.TheVariants as built
use Rattle.svr_stmt.specs.StmtRules.{a_node, a_path_here, values, Rule, path_method, randomize_end, randomize_given, new_by, new_right, pattern_right, value_right, answer_right, is_connective, behind_parens, behind_open, behind_path, path_right_by, path_right, right_by, right_in, part, stmt}
use Rattle.svr_stmt_laws.proofs.Sets.{SetLaws}
use Rattle.svr_stmt_laws.proofs.Growth.{local_parts}
use Rattle.svr_stmt_laws.proofs.Values.{connectives_take}
use Rattle.svr_stmt_laws.proofs.SoundRights.{connective_seen}
use Rattle.svr_stmt_laws.proofs.CompleteCalls.{call_of}
use Rattle.svr_stmt_laws.proofs.CompleteRights.{Semi, semi_closes, semi_no_with, behind_call, right_complete}
use Rattle.svr_stmt_laws.proofs.LiveFork.{either_form, fork_goal}
use Rattle.svr_stmt_laws.proofs.LiveCalls.{end_goal, given_call_form}

closes_no_paren : (q : Option Lexeme) → Closes q → is_fixed (f.Mark m.OpenParen) q ≡ false
unfolding same_mark
closes_no_paren (Some (lexeme.Mark m.OpenParen)) h = absurd (omega (arith, h))
closes_no_paren _ h = refl

closes_no_dot : (q : Option Lexeme) → Closes q → NotDot q
closes_no_dot q h = (closes_select q h).0

semi_no_connective : (q : Option Lexeme) → Semi q → is_connective (connective_of q) ≡ false
semi_no_connective q h = ap (λ z. is_connective (connective_of z)) h

brace_closes : ClosesList (Some (lexeme.Mark m.CloseBrace))
unfolding same_mark
brace_closes = (refl, refl)

module _ (sets : SetLaws) (most r : ℕ) (fits : 1 ≤ r) (roomy : r ≤ most) where
  abbrev R : {X : Type 0} → Rule X → Parser X
  R p = run most r (part most r (stmt most r)) p

  abbrev G : {X : Type 0} → (D C : Option Lexeme → Type 0) → (X → Type 0) → Rule X → Type 0
  G D C Q q = Goal most r (part most r (stmt most r)) (local_parts sets most r) D C Q q

  abbrev F : {X : Type 0} → (C : Option Lexeme → Type 0) → (X → Type 0) → Rule X → Type 0
  F C Q q = Form most r (part most r (stmt most r)) (local_parts sets most r) C Q q

  lo : {X : Type 0} (q : Rule X) → IsLocal (R q)
  lo q = local_run most r (part most r (stmt most r)) (local_parts sets most r) q

  some : 1 ≤ most
  some = omega (arith, fits, roomy)

  -- ---- `new` and patterns

  new_branch : (q : Option Lexeme) → Peeks most r (part most r (stmt most r)) (local_parts sets most r) Semi (Low r) (tree.new false, 0) (new_by q)
  new_branch (Some (lexeme.Mark m.OpenParen)) = reads (take_form most r (part most r (stmt most r)) (local_parts sets most r) (λ _.
      then_goal most r (part most r (stmt most r)) (local_parts sets most r) (goal_expect most r (part most r (stmt most r)) (local_parts sets most r) {D = AnyToken} (f.Mark m.CloseParen) tt) (λ _ _.
      pure_goal most r (part most r (stmt most r)) (local_parts sets most r) (omega arith) (λ _ _. tt))))
  new_branch (Some (lexeme.Mark m.OpenBracket)) = reads (take_form most r (part most r (stmt most r)) (local_parts sets most r) (λ _.
      then_goal most r (part most r (stmt most r)) (local_parts sets most r) (open_of most r (part most r (stmt most r)) (local_parts sets most r) {k = a_node (an_expr 1)} (expr_open most r fits roomy {D = AnyToken} 1 (omega arith) (omega arith) tt)) (λ n g.
      then_goal most r (part most r (stmt most r)) (local_parts sets most r) (goal_expect most r (part most r (stmt most r)) (local_parts sets most r) {D = Closes} (f.Mark m.CloseBracket) refl) (λ _ _.
      pure_goal most r (part most r (stmt most r)) (local_parts sets most r) g.1 (λ _ _. tt)))))
  new_branch _ = stops (λ i. refl)

  new_form : F Semi (Low r) new_right
  unfolding new_right
  new_form = take_form most r (part most r (stmt most r)) (local_parts sets most r) (λ _. any_goal most r (part most r (stmt most r)) (local_parts sets most r)
      (peek_goal most r (part most r (stmt most r)) (local_parts sets most r) Semi (Low r) (tree.new false, 0) (omega arith) new_by new_branch (λ q i c. ap (λ z. R (new_by z) i) c)))

  values_form : (at : ℕ) → F Semi (Low r) (bind (call values) (λ es. bind (expect (f.Mark m.CloseBrace)) (λ _. pure (tree.pattern at (exprs_of es.0), es.1))))
  values_form at = then_form most r (part most r (stmt most r)) (local_parts sets most r) (form_of most r (part most r (stmt most r)) (local_parts sets most r) {k = values} (live_exprs most r fits roomy)) (λ es g.
      then_goal most r (part most r (stmt most r)) (local_parts sets most r) (goal_expect most r (part most r (stmt most r)) (local_parts sets most r) {D = ClosesList} (f.Mark m.CloseBrace) brace_closes) (λ _ _.
      pure_goal most r (part most r (stmt most r)) (local_parts sets most r) g (λ _ _. tt)))

  pattern_form : F Semi (Low r) pattern_right
  unfolding pattern_right
  pattern_form = take_form most r (part most r (stmt most r)) (local_parts sets most r) (λ at. goal_of most r (part most r (stmt most r)) (local_parts sets most r)
      (led_form most r (part most r (stmt most r)) (local_parts sets most r) (f.Mark m.CloseBrace) (pure (tree.pattern at (exprs_of []), 0)) _ Semi (Low r) (pure_goal most r (part most r (stmt most r)) (local_parts sets most r) (omega arith) (λ _ _. tt)) (values_form at))
      (record {
        more = tok (lexeme.Mark m.CloseBrace) ∷ [];
        x = (tree.pattern at (exprs_of []), 0);
        good = omega arith;
        opens = λ z cl. tt;
        ends = λ z cl. led_yes most r (part most r (stmt most r)) (f.Mark m.CloseBrace) (pure (tree.pattern at (exprs_of []), 0)) _ (tok (lexeme.Mark m.CloseBrace)) z refl;
      }))

  -- ---- expressions

  plain_form : F Semi (Low r) (value_right (an_expr 1))
  unfolding value_right
  plain_form = narrow_form most r (part most r (stmt most r)) (local_parts sets most r)
      (then_form most r (part most r (stmt most r)) (local_parts sets most r) (form_of most r (part most r (stmt most r)) (local_parts sets most r) {k = a_node (an_expr 1)} (live_expr most r some roomy 1 (omega arith) (omega arith))) (λ e g.
      pure_goal most r (part most r (stmt most r)) (local_parts sets most r) g.1 (λ _ h. h))) semi_closes

  behind_goal : (at : ℕ) (p : ExprTree × NameKind) → G Closes Semi (Low r) (behind_path at p)
  unfolding behind_path value_right
  behind_goal at p = narrow_goal most r (part most r (stmt most r)) (local_parts sets most r)
      (then_goal most r (part most r (stmt most r)) (local_parts sets most r) (open_of most r (part most r (stmt most r)) (local_parts sets most r) {k = a_node (rest_of_path at p)} (rest_open most r at p some roomy fits)) (λ e g.
      pure_goal most r (part most r (stmt most r)) (local_parts sets most r) g.1 (λ _ h. h))) semi_closes

  operand_goal : (at : ℕ) (p : ExprTree) → G Closes Semi (Low r) (value_right (rest_of_operand at (p, 1)))
  unfolding value_right
  operand_goal at p = narrow_goal most r (part most r (stmt most r)) (local_parts sets most r)
      (then_goal most r (part most r (stmt most r)) (local_parts sets most r) (open_of most r (part most r (stmt most r)) (local_parts sets most r) {k = a_node (rest_of_operand at (p, 1))} (connectives_open most r at (p, 1) some roomy (omega arith, fits))) (λ e g.
      pure_goal most r (part most r (stmt most r)) (local_parts sets most r) g.1 (λ _ h. h))) semi_closes

  operand_takes : (at : ℕ) (p : ExprTree) (i : List Tok) (x : WithHeight RightTree) (j : List Tok) → is_connective (connective_of (lexeme_at i)) ≡ true → R (value_right (rest_of_operand at (p, 1))) i ≡ Ok (x, j) → length j < length i
  unfolding value_right
  operand_takes at p i x j seen h = bind_ok (node most r (rest_of_operand at (p, 1)) i) _ (x, j) h (λ e mid e2 g.
      let both : ◌≡◌ {A = WithHeight RightTree × List Tok} ((tree.value e.0, e.1), mid) (x, j) = cc in
      connective_seen (connective_of (lexeme_at i)) seen (λ k is. let less = connectives_take most r at (p, 1) k i e mid is e2 in omega (arith, less, ap (λ z. length z.1) both)))

  -- ---- calls

  answer_end : (p : ExprTree) → G Semi Semi (Low r) (answer_right (randomize_end p args.Empty))
  unfolding answer_right
  answer_end p = then_goal most r (part most r (stmt most r)) (local_parts sets most r) (end_goal sets most r fits roomy Semi semi_no_with p args.Empty) (λ c g. pure_goal most r (part most r (stmt most r)) (local_parts sets most r) g.1 (λ _ h. h))

  answer_given : (p : ExprTree) → F Semi (Low r) (answer_right (randomize_given p))
  unfolding answer_right
  answer_given p = then_form most r (part most r (stmt most r)) (local_parts sets most r) (given_call_form sets most r fits roomy Semi semi_no_with p) (λ c g. pure_goal most r (part most r (stmt most r)) (local_parts sets most r) g.1 (λ _ h. h))

  parens_goal : (at : ℕ) (p : ExprTree) → G Semi Semi (Low r) (behind_parens at p)
  unfolding behind_parens
  parens_goal at p = fork_goal most r (part most r (stmt most r)) (local_parts sets most r) (λ l. is_connective (connective_of l)) (value_right (rest_of_operand at (with_parens p, 1))) (answer_right (randomize_end p args.Empty)) Semi Closes Semi (Low r) semi_no_connective
      (operand_goal at (with_parens p)) (operand_takes at (with_parens p)) (answer_end p)

  opened_goal : (at : ℕ) (p : ExprTree) → G AnyToken Semi (Low r) (behind_open at p)
  unfolding behind_open
  opened_goal at p = goal_of most r (part most r (stmt most r)) (local_parts sets most r)
      (led_form most r (part most r (stmt most r)) (local_parts sets most r) (f.Mark m.CloseParen) (behind_parens at p) (answer_right (randomize_given p)) Semi (Low r) (any_goal most r (part most r (stmt most r)) (local_parts sets most r) (parens_goal at p)) (answer_given p))
      (record {
        more = tok (lexeme.Mark m.CloseParen) ∷ [];
        x = (tree.answer (call_of sets most r roomy (stmt most r) (owner p) args.Empty None), 1);
        good = fits;
        opens = λ z cl. tt;
        ends = λ z cl. closed z cl;
      })
    where
      closed : (z : List Tok) → Semi (lexeme_at z) → R (behind_open at p) (tok (lexeme.Mark m.CloseParen) ∷ z) ≡ Ok ((tree.answer (call_of sets most r roomy (stmt most r) (owner p) args.Empty None), 1), z)
      closed z cl = behind_call sets most r roomy (stmt most r) at p args.Empty None (tok (lexeme.Mark m.CloseParen) ∷ z) z (omega (arith, some)) tt tt (omega arith) (refl, refl) cl

  -- ---- right sides

  path_by_goal : (at : ℕ) (p : ExprTree × NameKind) (o : Option Method) → G NotDot Semi (Low r) (path_right_by at p o)
  path_by_goal at p (Some built.Randomize) = wide_goal most r (part most r (stmt most r)) (local_parts sets most r)
      (led_goal most r (part most r (stmt most r)) (local_parts sets most r) (f.Mark m.OpenParen) (behind_open at p.0) (behind_path at p) Closes Semi (Low r) closes_no_paren (opened_goal at p.0) (behind_goal at p)) closes_no_dot
  path_by_goal at p (Some (built.Mode k)) = wide_goal most r (part most r (stmt most r)) (local_parts sets most r) (behind_goal at p) closes_no_dot
  path_by_goal at p None = wide_goal most r (part most r (stmt most r)) (local_parts sets most r) (behind_goal at p) closes_no_dot

  path_form : F Semi (Low r) path_right
  unfolding path_right
  path_form = here_form most r (part most r (stmt most r)) (local_parts sets most r) (λ at.
      then_form most r (part most r (stmt most r)) (local_parts sets most r) (form_of most r (part most r (stmt most r)) (local_parts sets most r) {k = a_path_here} (live_known_path most r some)) (λ p _. path_by_goal at p (path_method p)))

  right_by_form : (q : Option Lexeme) → F Semi (Low r) (right_by q)
  right_by_form (Some (lexeme.Word w.New)) = new_form
  right_by_form (Some (lexeme.Mark m.OpenPattern)) = pattern_form
  right_by_form q = either_form most r (part most r (stmt most r)) (local_parts sets most r) (path_starts q) path_form plain_form

  pub right_goal : G AnyToken Semi (Low r) right_in
  unfolding right_in
  right_goal = goal_of most r (part most r (stmt most r)) (local_parts sets most r) (peek_form most r (part most r (stmt most r)) (local_parts sets most r) right_by_form) (record {
    more = name_tok ∷ [];
    x = (tree.value name_expr, 1);
    good = fits;
    opens = λ z cl. tt;
    ends = λ z cl. (right_complete sets most r roomy (stmt most r)).at (tree.value name_expr) (name_tok ∷ z) z (omega (arith, some)) refl fits (name_takes z) cl;
  })

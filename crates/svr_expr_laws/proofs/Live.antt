-- Where the reading of an expression fails, what was read so far can be completed.
use Rattle.std.proofs.Common.{◌≡◌, ℕ, zero, suc, ◌+◌, ◌≤◌, max, Bool, true, false, List, [], ◌∷◌, Option, Some, None, Ok, inl, refl, ◌∙◌, arith}
use Rattle.svr_token.specs.declared.Lexeme.{Lexeme}
use Rattle.svr_token.specs.declared.Lexeme.TheVariants as lexeme
use Rattle.svr_token.specs.declared.Word.TheVariants as w
use Rattle.svr_token.specs.declared.Mark.{Mark}
use Rattle.svr_token.specs.declared.Mark.TheVariants as m
use Rattle.svr_token.specs.declared.NameKind.{NameKind}
use Rattle.svr_token.specs.declared.NameKind.TheVariants as name_kind
use Rattle.svr_token.specs.declared.SystemName.{SystemName}
use Rattle.svr_operator.specs.declared.UnOp.{UnOp}
use Rattle.svr_operator.specs.declared.BinOp.{BinOp}
use Rattle.svr_operator.specs.declared.Fold.{Fold}
use Rattle.svr_tree.specs.declared.expr.IteratorArgument.{IteratorArgument}
use Rattle.svr_tree.specs.declared.expr.IteratorArgument.TheVariants as iterator
use Rattle.svr_tree.specs.Tokens.{Tok}
use Rattle.svr_tree.specs.Operators.{conditional_level, multiplicative_level, unary_level, selection_level, precedence, least_right}
use Rattle.svr_tree.specs.ExprTree.{ExprTree, bit_select, part_select, join, exprs_of}
use Rattle.svr_reader.specs.Outcomes.{Turn, go, done, Parser, lexeme_at}
use Rattle.svr_reader.specs.declared.fixed.Fixed.TheVariants as f
use Rattle.svr_reader.specs.Program.{pure, bind, peek, call, run, expect}
use Rattle.svr_reader.specs.Steps.{same_mark}
use Rattle.svr_reader.specs.Lists.{WithHeight, led, listing_on, choose}
use Rattle.svr_reader.proofs.Steps.{bind_is, expects, led_no}
use Rattle.svr_reader.proofs.Local.{IsLocal}
use Rattle.svr_reader.proofs.Live.{AnyToken}
use Rattle.svr_reader.proofs.LiveLoops.{Then}
use Rattle.svr_reader.proofs.Goals.{Goal, Form, then_goal, then_form, goal_of, pure_goal, take_form, enter_form, peek_form, here_form, refuse_form, narrow_form, any_goal, wide_goal}
use Rattle.svr_reader.proofs.Led.{AnyAnswer, tok, a_name, name_tok, expect_form, goal_expect, led_form}
use Rattle.svr_reader.proofs.LivePeeks.{Peeks, reads, stops, peek_goal, peek_loop_goal}
use Rattle.svr_reader.proofs.Rooms.{none_never, none_later}
use Rattle.svr_reader.proofs.Layers.{IsViable, IsOpen, Low, Part}
use Rattle.svr_expr.specs.declared.connective.Connective.{Connective}
use Rattle.svr_expr.specs.declared.connective.Connective.TheVariants as connective
use Rattle.svr_expr.specs.Connectives.{unary_of, connective_of, connective_level, goes_on}
use Rattle.svr_expr.specs.ExprRules.{Rule, parens_on, select_on, suffix_by, suffix_step, with_suffixes, body_on, called_by, argument_on, argument_by, fold_by, owner, with_parens, path_fold, path_on_by, path_rest, path_expr, literal, paren_expr, sign_expr, copies_on, join_on, brace_expr, unary_expr, unary_by, prefix_by, prefix, binary_on, choice_on, inside_on, extend_by, extend, climb_by, climb_step, climb, expr_in, path_starts, expr_starts, a_path, a_member, rest_of_path, rest_of_operand, node, expr, a_known_path, some_exprs, a_range}
use Rattle.svr_expr.proofs.Local.{local_expr}
use Rattle.svr_expr_laws.proofs.Connectives.{precedence_pos, precedence_low, right_pos, right_low, connective_pos, binds_connective}
use Rattle.svr_expr_laws.proofs.CompleteParts.{IsCompleteExpr}
use Rattle.svr_expr_laws.proofs.Complete.{expr_complete}
use Rattle.svr_expr_laws.proofs.Nodes.{NotDot, NotSelect, name_expr, name_read, name_path, name_member, name_known}
use Rattle.svr_expr_laws.proofs.LiveRest.{Leads, leads, defers, else_goal}
use Rattle.svr_expr_laws.proofs.LiveParts.{Closes, ClosesList, closes_select, known_path_form, goal_sub, exprs_form, exprs_goal, exprs_on_goal, range_form, range_fin, ranges_goal, path_in_form, member_in_form}

module _ (most r : ℕ) (sub : ℕ → Parser (WithHeight ExprTree)) (ls : (least : ℕ) → IsLocal (sub least)) (some : 1 ≤ most)
    (complete : IsCompleteExpr most r sub) (hyp : 1 ≤ r → (least : ℕ) → 1 ≤ least → least ≤ unary_level → IsViable most Closes (Part r) (sub least)) where
  abbrev R : {X : Type 0} → Rule X → Parser X
  R p = run most r sub p

  abbrev G : {X : Type 0} → (D C : Option Lexeme → Type 0) → (X → Type 0) → Rule X → Type 0
  G D C Q q = Goal most r sub ls D C Q q

  abbrev F : {X : Type 0} → (C : Option Lexeme → Type 0) → (X → Type 0) → Rule X → Type 0
  F C Q q = Form most r sub ls C Q q

  any_sub : 1 ≤ r → G AnyToken Closes (Part r) (call 1)
  any_sub fits = goal_sub most r sub ls some complete hyp fits 1 (omega arith) (omega arith) tt

  mark_goal : {D : Option Lexeme → Type 0} (k : Mark) → D (Some (lexeme.Mark k)) → G D AnyToken AnyAnswer (expect (f.Mark k))
  mark_goal k d = goal_expect most r sub ls (f.Mark k) d

  -- ---- selects

  abbrev second : ℕ → WithHeight ExprTree → WithHeight ExprTree → Rule (WithHeight ExprTree)
  second at base first = bind (call 1) (λ last. bind (expect (f.Mark m.CloseBracket)) (λ _. pure (part_select at base.0 first.0 last.0 false, max (max base.1 first.1) last.1 + 1)))

  abbrev single : ℕ → WithHeight ExprTree → WithHeight ExprTree → Rule (WithHeight ExprTree)
  single at base first = bind (expect (f.Mark m.CloseBracket)) (λ _. pure (bit_select at base.0 first.0 false, max base.1 first.1 + 1))

  bounds_goal : (at : ℕ) (base first : WithHeight ExprTree) → 1 ≤ r → Low r base → Low r first → G Closes AnyToken (Part (suc r)) (led (f.Mark m.Colon) (second at base first) (single at base first))
  unfolding same_mark
  bounds_goal at base first fits a e = goal_of most r sub ls
      (led_form most r sub ls (f.Mark m.Colon) (second at base first) (single at base first) AnyToken (Part (suc r))
      (then_goal most r sub ls (any_sub fits) (λ x g. then_goal most r sub ls (mark_goal m.CloseBracket refl) (λ _ _. pure_goal most r sub ls (omega arith, omega (arith, a, e, g.1)) (λ _ _. tt))))
      (then_form most r sub ls (expect_form most r sub ls (f.Mark m.CloseBracket)) (λ _ _. pure_goal most r sub ls (omega arith, omega (arith, a, e)) (λ _ h. h))))
      (record {
        more = tok (lexeme.Mark m.CloseBracket) ∷ [];
        x = (bit_select at base.0 first.0 false, max base.1 first.1 + 1);
        good = (omega arith, omega (arith, a, e));
        opens = λ z cl. refl;
        ends = λ z cl. led_no most r sub (f.Mark m.Colon) (second at base first) (single at base first) (tok (lexeme.Mark m.CloseBracket) ∷ z) refl
            ∙ bind_is (R (expect (f.Mark m.CloseBracket)) (tok (lexeme.Mark m.CloseBracket) ∷ z)) _ tt z _ (expects most r sub (f.Mark m.CloseBracket) (tok (lexeme.Mark m.CloseBracket) ∷ z) z (refl, refl)) refl;
      })

  select_form : (at : ℕ) (base : WithHeight ExprTree) → Part (suc r) base → F AnyToken (Part (suc r)) (select_on at base)
  unfolding select_on
  select_form at base a = enter_form most r sub ls a.1 (λ fits _. let some_room : 1 ≤ r = omega (arith, a.0, fits) in then_goal most r sub ls (any_sub some_room) (λ x g. bounds_goal at base x some_room fits g.1))

  parens_form : (base : WithHeight ExprTree) → Part (suc r) base → F AnyToken (Part (suc r)) (parens_on base)
  unfolding parens_on
  parens_form base a = take_form most r sub ls (λ _. then_goal most r sub ls (mark_goal m.CloseParen tt) (λ _ _. pure_goal most r sub ls a (λ _ h. h)))

  abbrev SuffixEnds : ℕ → Turn (WithHeight ExprTree) (WithHeight ExprTree) → Type 0
  SuffixEnds at = Then most Closes Closes (Part (suc r)) (λ s. R (bind peek (suffix_by at s))) (Part (suc r))

  suffix_branch : (at : ℕ) (s : WithHeight ExprTree) → Part (suc r) s → (q : Option Lexeme) → Peeks most r sub ls Closes (SuffixEnds at) (done s) (suffix_by at s q)
  suffix_branch at s inv (Some (lexeme.Mark m.OpenBracket)) = reads (then_form most r sub ls (select_form at s inv) (λ longer g. pure_goal most r sub ls {Q = SuffixEnds at} {x = go longer} (g, λ _ h. h) (λ _ _. tt)))
  suffix_branch at s inv (Some (lexeme.Mark m.OpenParen)) = reads (then_form most r sub ls (parens_form s inv) (λ longer g. pure_goal most r sub ls {Q = SuffixEnds at} {x = done longer} g (λ _ _. tt)))
  suffix_branch at s inv _ = stops (λ i. refl)

  suffix_stops : (at : ℕ) (s : WithHeight ExprTree) (q : Option Lexeme) (i : List Tok) → Closes q → R (suffix_by at s q) i ≡ Ok (done s, i)
  suffix_stops at s (Some (lexeme.Mark m.OpenBracket)) i h = absurd (omega (arith, h))
  suffix_stops at s (Some (lexeme.Mark m.OpenParen)) i h = absurd (omega (arith, h))
  suffix_stops at s _ i h = refl

  with_suffixes_goal : (at : ℕ) (base : WithHeight ExprTree) → Part (suc r) base → G Closes Closes (Part (suc r)) (with_suffixes at base)
  unfolding with_suffixes suffix_step
  with_suffixes_goal at base a = peek_loop_goal most r sub ls Closes (Part (suc r)) (Part (suc r)) (suffix_by at) (λ x. x) (λ s inv. inv) (suffix_branch at) (suffix_stops at) some base a

  -- ---- array reductions

  body_form : (at : ℕ) (array : ExprTree) (op : Fold) (item : IteratorArgument) → F AnyToken (Part (suc r)) (body_on at array op item)
  unfolding body_on
  body_form at array op item = enter_form most r sub ls (omega arith) (λ fits _. then_goal most r sub ls (mark_goal m.OpenParen tt) (λ _ _. then_goal most r sub ls (any_sub fits) (λ x g.
      then_goal most r sub ls (mark_goal m.CloseParen refl) (λ _ _. pure_goal most r sub ls (omega arith, omega (arith, fits, g.1)) (λ _ _. tt)))))

  argument_form : (at : ℕ) (p : ExprTree) (op : Fold) → F AnyToken (Part (suc r)) (argument_on at p op)
  unfolding argument_on
  argument_form at p op = enter_form most r sub ls (omega arith) (λ fits n. then_goal most r sub ls (mark_goal m.CloseParen tt) (λ _ _. then_goal most r sub ls (goal_expect most r sub ls (f.Word w.With) tt) (λ _ _.
      then_goal most r sub ls (mark_goal m.OpenParen tt) (λ _ _. then_goal most r sub ls (any_sub fits) (λ x g.
      then_goal most r sub ls (mark_goal m.CloseParen refl) (λ _ _. pure_goal most r sub ls (omega arith, omega (arith, fits, g.1)) (λ _ _. tt)))))))

  module _ (at : ℕ) (p : ExprTree) (op : Fold) where
    called_branch : (q : Option Lexeme) → Peeks most r sub ls Closes (Part (suc r)) (with_parens p, 1) (called_by at p op q)
    called_branch (Some (lexeme.Word w.With)) = reads (narrow_form most r sub ls (body_form at (owner p) op iterator.Empty) (λ _ _. tt))
    called_branch _ = stops (λ i. refl)

    called_stops : (q : Option Lexeme) (i : List Tok) → Closes q → R (called_by at p op q) i ≡ Ok ((with_parens p, 1), i)
    called_stops (Some (lexeme.Word w.With)) i h = absurd (omega (arith, h))
    called_stops _ i h = refl

    called_goal : G Closes Closes (Part (suc r)) (bind peek (called_by at p op))
    called_goal = peek_goal most r sub ls Closes (Part (suc r)) (with_parens p, 1) (omega arith, omega arith) (called_by at p op) called_branch called_stops

    argument_by_form : (q : Option Lexeme) → F Closes (Part (suc r)) (argument_by at p op q)
    argument_by_form (Some (lexeme.Name k)) = narrow_form most r sub ls (argument_form at p op) (λ _ _. tt)
    argument_by_form _ = then_form most r sub ls (expect_form most r sub ls (f.Mark m.CloseParen)) (λ _ _. any_goal most r sub ls called_goal)

    behind_paren_goal : G AnyToken Closes (Part (suc r)) (bind peek (argument_by at p op))
    behind_paren_goal = goal_of most r sub ls (peek_form most r sub ls argument_by_form) (record {
      more = tok (lexeme.Mark m.CloseParen) ∷ [];
      x = (with_parens p, 1);
      good = (omega arith, omega arith);
      opens = λ z cl. tt;
      ends = λ z cl. bind_is (R (expect (f.Mark m.CloseParen)) (tok (lexeme.Mark m.CloseParen) ∷ z)) _ tt z _ (expects most r sub (f.Mark m.CloseParen) (tok (lexeme.Mark m.CloseParen) ∷ z) z (refl, refl)) (called_stops (lexeme_at z) z cl);
    })

    fold_branch : (q : Option Lexeme) → Leads most r sub ls Closes (Part (suc r)) (with_suffixes at (p, 1)) (fold_by at p op q)
    fold_branch (Some (lexeme.Word w.With)) = leads (narrow_form most r sub ls (body_form at (owner p) op iterator.Absent) (λ _ _. tt))
    fold_branch (Some (lexeme.Mark m.OpenParen)) = leads (take_form most r sub ls (λ _. behind_paren_goal))
    fold_branch _ = defers (λ i. refl)

    fold_goes_on : (q : Option Lexeme) (i : List Tok) → Closes q → R (fold_by at p op q) i ≡ R (with_suffixes at (p, 1)) i
    fold_goes_on (Some (lexeme.Word w.With)) i h = absurd (omega (arith, h))
    fold_goes_on (Some (lexeme.Mark m.OpenParen)) i h = absurd (omega (arith, h))
    fold_goes_on _ i h = refl

    fold_goal : G Closes Closes (Part (suc r)) (bind peek (fold_by at p op))
    fold_goal = else_goal most r sub ls Closes (Part (suc r)) (with_suffixes at (p, 1)) (with_suffixes_goal at (p, 1) (omega arith, omega arith)) (fold_by at p op) fold_branch fold_goes_on

  path_on_goal : (at : ℕ) (p : ExprTree) (o : Option Fold) → G Closes Closes (Part (suc r)) (path_on_by at p o)
  path_on_goal at p (Some op) = fold_goal at p op
  path_on_goal at p None = with_suffixes_goal at (p, 1) (omega arith, omega arith)

  path_rest_goal : (at : ℕ) (p : ExprTree × NameKind) → G Closes Closes (Part (suc r)) (path_rest at p)
  unfolding path_rest
  path_rest_goal at p = path_on_goal at p.0 (path_fold p)

  path_expr_form : F Closes (Part (suc r)) path_expr
  unfolding path_expr
  path_expr_form = here_form most r sub ls (λ at. then_form most r sub ls (known_path_form most r sub ls some) (λ p _. wide_goal most r sub ls (path_rest_goal at p) (λ q h. (closes_select q h).0)))

  -- ---- the other primaries

  paren_expr_form : F AnyToken (Part (suc r)) paren_expr
  unfolding paren_expr
  paren_expr_form = enter_form most r sub ls (omega arith) (λ fits at. then_goal most r sub ls (any_sub fits) (λ x g.
      then_goal most r sub ls (mark_goal m.CloseParen refl) (λ _ _. pure_goal most r sub ls (omega arith, omega (arith, g.1)) (λ _ _. tt))))

  sign_expr_form : (s : SystemName) → F AnyToken (Part (suc r)) (sign_expr s)
  unfolding sign_expr
  sign_expr_form s = enter_form most r sub ls (omega arith) (λ fits at. then_goal most r sub ls (mark_goal m.OpenParen tt) (λ _ _. then_goal most r sub ls (any_sub fits) (λ x g.
      then_goal most r sub ls (mark_goal m.CloseParen refl) (λ _ _. pure_goal most r sub ls (omega arith, omega (arith, g.1)) (λ _ _. tt)))))

  closes_list : ClosesList (Some (lexeme.Mark m.CloseBrace))
  unfolding same_mark
  closes_list = (refl, refl)

  copies_on_goal : (at : ℕ) (count : WithHeight ExprTree) → 1 ≤ r → Low r count → G AnyToken AnyToken (Part (suc r)) (copies_on at count)
  unfolding copies_on
  copies_on_goal at count fits a = then_goal most r sub ls (exprs_goal most r sub ls some complete hyp fits tt) (λ xs g. then_goal most r sub ls (mark_goal m.CloseBrace closes_list) (λ _ _.
      then_goal most r sub ls (mark_goal m.CloseBrace tt) (λ _ _. pure_goal most r sub ls (omega arith, omega (arith, a, g)) (λ _ h. h))))

  join_on_goal : {D : Option Lexeme → Type 0} (at : ℕ) (parts : WithHeight (List ExprTree)) → Low r parts → D (Some (lexeme.Mark m.CloseBrace)) → G D AnyToken (Part (suc r)) (join_on at parts)
  unfolding join_on
  join_on_goal at parts a d = then_goal most r sub ls (mark_goal m.CloseBrace d) (λ _ _. pure_goal most r sub ls (omega arith, omega (arith, a)) (λ _ h. h))

  join_on_form : (at : ℕ) (parts : WithHeight (List ExprTree)) → Low r parts → F AnyToken (Part (suc r)) (join_on at parts)
  unfolding join_on
  join_on_form at parts a = then_form most r sub ls (expect_form most r sub ls (f.Mark m.CloseBrace)) (λ _ _. pure_goal most r sub ls (omega arith, omega (arith, a)) (λ _ h. h))

  abbrev several : ℕ → WithHeight ExprTree → Rule (WithHeight ExprTree)
  several at first = bind (listing_on (call 1) (first.0 ∷ [], first.1)) (λ parts. join_on at parts)

  several_goal : (at : ℕ) (first : WithHeight ExprTree) → 1 ≤ r → Low r first → G AnyToken AnyToken (Part (suc r)) (several at first)
  several_goal at first fits a = then_goal most r sub ls (exprs_on_goal most r sub ls some complete hyp fits (first.0 ∷ [], first.1) a) (λ parts g. join_on_goal at parts g closes_list)

  parts_goal : (at : ℕ) (first : WithHeight ExprTree) → 1 ≤ r → Low r first
      → G Closes AnyToken (Part (suc r)) (led (f.Mark m.OpenBrace) (copies_on at first) (led (f.Mark m.Comma) (several at first) (join_on at (first.0 ∷ [], first.1))))
  unfolding same_mark join_on
  parts_goal at first fits a = goal_of most r sub ls
      (led_form most r sub ls (f.Mark m.OpenBrace) (copies_on at first) (led (f.Mark m.Comma) (several at first) (join_on at (first.0 ∷ [], first.1))) AnyToken (Part (suc r)) (copies_on_goal at first fits a)
      (led_form most r sub ls (f.Mark m.Comma) (several at first) (join_on at (first.0 ∷ [], first.1)) AnyToken (Part (suc r)) (several_goal at first fits a) (join_on_form at (first.0 ∷ [], first.1) a)))
      (record {
        more = tok (lexeme.Mark m.CloseBrace) ∷ [];
        x = (join at (exprs_of (first.0 ∷ [])), first.1 + 1);
        good = (omega arith, omega (arith, a));
        opens = λ z cl. refl;
        ends = λ z cl. led_no most r sub (f.Mark m.OpenBrace) (copies_on at first) (led (f.Mark m.Comma) (several at first) (join_on at (first.0 ∷ [], first.1))) (tok (lexeme.Mark m.CloseBrace) ∷ z) refl
            ∙ led_no most r sub (f.Mark m.Comma) (several at first) (join_on at (first.0 ∷ [], first.1)) (tok (lexeme.Mark m.CloseBrace) ∷ z) refl
            ∙ bind_is (R (expect (f.Mark m.CloseBrace)) (tok (lexeme.Mark m.CloseBrace) ∷ z)) _ tt z _ (expects most r sub (f.Mark m.CloseBrace) (tok (lexeme.Mark m.CloseBrace) ∷ z) z (refl, refl)) refl;
      })

  brace_expr_form : F AnyToken (Part (suc r)) brace_expr
  unfolding brace_expr
  brace_expr_form = enter_form most r sub ls (omega arith) (λ fits at. then_goal most r sub ls (any_sub fits) (λ x g. parts_goal at x fits g.1))

  unary_expr_form : (op : UnOp) → F Closes (Part (suc r)) (unary_expr op)
  unfolding unary_expr
  unary_expr_form op = enter_form most r sub ls (omega arith) (λ fits at. then_goal most r sub ls (goal_sub most r sub ls some complete hyp fits unary_level (omega arith) (omega arith) tt) (λ x g. pure_goal most r sub ls (omega arith, omega (arith, g.1)) (λ _ h. h)))

  unary_by_form : (op : Option UnOp) → F Closes (Part (suc r)) (unary_by op)
  unary_by_form (Some op) = unary_expr_form op
  unary_by_form None = refuse_form most r sub ls

  prefix_by_form : (q : Option Lexeme) → F Closes (Part (suc r)) (prefix_by q)
  unfolding literal
  prefix_by_form (Some (lexeme.Literal v width signed)) = take_form most r sub ls (λ at. pure_goal most r sub ls (omega arith, omega arith) (λ _ _. tt))
  prefix_by_form (Some (lexeme.Name k)) = path_expr_form
  prefix_by_form (Some (lexeme.Word w.Local)) = path_expr_form
  prefix_by_form (Some (lexeme.Word w.This)) = path_expr_form
  prefix_by_form (Some (lexeme.System s)) = narrow_form most r sub ls (sign_expr_form s) (λ _ _. tt)
  prefix_by_form (Some (lexeme.Mark m.OpenParen)) = narrow_form most r sub ls paren_expr_form (λ _ _. tt)
  prefix_by_form (Some (lexeme.Mark m.OpenBrace)) = narrow_form most r sub ls brace_expr_form (λ _ _. tt)
  prefix_by_form (Some (lexeme.Mark k)) = unary_by_form (unary_of k)
  prefix_by_form _ = refuse_form most r sub ls

  prefix_form : F Closes (Part (suc r)) prefix
  unfolding prefix
  prefix_form = peek_form most r sub ls prefix_by_form

  -- ---- operators

  binary_on_goal : (at : ℕ) (left : WithHeight ExprTree) (op : BinOp) → Part r left → G AnyToken Closes (Part (suc r)) (binary_on at left op)
  unfolding binary_on
  binary_on_goal at left op a = then_goal most r sub ls (goal_sub most r sub ls some complete hyp (omega (arith, a.0, a.1)) (least_right (precedence op)) (right_pos (precedence op) (precedence_pos op)) (right_low (precedence op) multiplicative_level (precedence_low op) (omega arith)) tt)
      (λ x g. pure_goal most r sub ls (omega arith, omega (arith, a.1, g.1)) (λ _ h. h))

  choice_on_goal : (at : ℕ) (left : WithHeight ExprTree) → Part r left → G AnyToken Closes (Part (suc r)) (choice_on at left)
  unfolding choice_on
  choice_on_goal at left a = let fits : 1 ≤ r = omega (arith, a.0, a.1) in then_goal most r sub ls (any_sub fits) (λ x g. then_goal most r sub ls (mark_goal m.Colon refl) (λ _ _.
      then_goal most r sub ls (goal_sub most r sub ls some complete hyp fits conditional_level (omega arith) (omega arith) tt) (λ y g2. pure_goal most r sub ls (omega arith, omega (arith, a.1, g.1, g2.1)) (λ _ h. h))))

  inside_on_goal : (at : ℕ) (left : WithHeight ExprTree) → Part r left → G AnyToken Closes (Part (suc r)) (inside_on at left)
  unfolding inside_on
  inside_on_goal at left a = then_goal most r sub ls (mark_goal m.OpenBrace tt) (λ _ _. then_goal most r sub ls (ranges_goal most r sub ls some complete hyp (omega (arith, a.0, a.1))) (λ xs g.
      then_goal most r sub ls (mark_goal m.CloseBrace closes_list) (λ _ _. pure_goal most r sub ls (omega arith, omega (arith, a.1, g)) (λ _ _. tt))))

  extend_by_goal : (at : ℕ) (left : WithHeight ExprTree) (k : Connective) → Part r left → G AnyToken Closes (Part (suc r)) (extend_by at left k)
  extend_by_goal at left (connective.Binary op) a = binary_on_goal at left op a
  extend_by_goal at left connective.Choice a = choice_on_goal at left a
  extend_by_goal at left connective.Inside a = inside_on_goal at left a

  extend_form : (at : ℕ) (left : WithHeight ExprTree) (k : Connective) → Part (suc r) left → F Closes (Part (suc r)) (extend at left k)
  unfolding extend
  extend_form at left k a = enter_form most r sub ls a.1 (λ fits _. extend_by_goal at left k (a.0, fits))

  -- ---- the connectives of an expression

  abbrev State : Type 0
  State = WithHeight ExprTree × ℕ

  abbrev Inv : State → Type 0
  Inv s = Part (suc r) s.0

  module _ (at least : ℕ) where
    abbrev climb_turn : State → Option Lexeme → Rule (Turn State (WithHeight ExprTree))
    climb_turn s l = climb_by at least s (connective_of l)

    abbrev ClimbEnds : Turn State (WithHeight ExprTree) → Type 0
    ClimbEnds = Then most Closes Closes (Part (suc r)) (λ s. R (bind peek (climb_turn s))) Inv

    abbrev onward : State → Connective → Rule (Turn State (WithHeight ExprTree))
    onward s k = bind (extend at s.0 k) (λ longer. pure (go (longer, least_right (connective_level k))))

    onward_form : (s : State) (k : Connective) → Inv s → F Closes ClimbEnds (onward s k)
    onward_form s k inv = then_form most r sub ls (extend_form at s.0 k inv) (λ longer g.
        let ends : ClimbEnds (go (longer, least_right (connective_level k))) = (g, λ _ h. h) in
        pure_goal most r sub ls {Q = ClimbEnds} {x = go (longer, least_right (connective_level k))} ends (λ _ h. h))

    connective_branch : (s : State) → Inv s → (k : Connective) (t : Bool) → Peeks most r sub ls Closes ClimbEnds (done s.0) (choose t (onward s k) (pure (done s.0)))
    connective_branch s inv k true = reads (onward_form s k inv)
    connective_branch s inv k false = stops (λ i. refl)

    climb_branch : (s : State) → Inv s → (o : Option Connective) → Peeks most r sub ls Closes ClimbEnds (done s.0) (climb_by at least s o)
    climb_branch s inv None = stops (λ i. refl)
    climb_branch s inv (Some k) = connective_branch s inv k (goes_on least s.1 (connective_level k))

    climb_stops : (s : State) (q : Option Lexeme) → Closes q → (o : Option Connective) → connective_of q ≡ o → (i : List Tok) → R (climb_by at least s o) i ≡ Ok (done s.0, i)
    climb_stops s q cl None e i = refl
    climb_stops s q cl (Some k) e i = absurd (let is = binds_connective q k e in let pos = connective_pos k in omega (arith, is, pos, cl))

    climb_goal : (first : WithHeight ExprTree) → Part (suc r) first → G Closes Closes (Part (suc r)) (climb at least first)
    unfolding climb climb_step
    climb_goal first a = peek_loop_goal most r sub ls Closes (Part (suc r)) Inv climb_turn (λ s. s.0) (λ s inv. inv)
        (λ s inv q. climb_branch s inv (connective_of q)) (λ s q i cl. climb_stops s q cl (connective_of q) refl i) some (first, selection_level) a

  pub expr_in_form : (least : ℕ) → F Closes (Part (suc r)) (expr_in least)
  unfolding expr_in
  expr_in_form least = here_form most r sub ls (λ at. then_form most r sub ls prefix_form (λ first g. climb_goal at least first g))

  -- ---- behind a first path

  pub rest_goal : (at : ℕ) (first : ExprTree × NameKind) → G Closes Closes (Part (suc r)) (bind (path_rest at first) (λ whole. climb at 1 whole))
  rest_goal at first = then_goal most r sub ls (path_rest_goal at first) (λ whole g. climb_goal at 1 whole g)

  pub connectives_goal : (at : ℕ) (first : WithHeight ExprTree) → Part (suc r) first → G Closes Closes (Part (suc r)) (climb at 1 first)
  connectives_goal at first a = climb_goal at 1 first a

-- ---- nodes of every height

pub live_expr : (most r : ℕ) → 1 ≤ most → r ≤ most → (least : ℕ) → 1 ≤ least → least ≤ unary_level → IsViable most Closes (Part r) (expr most r least)
unfolding node
live_expr most zero some roomy least pos low = record {
  later = none_later (WithHeight ExprTree) expr_starts most Closes (Part 0);
  settles = record { at = λ i x j lim h. absurd (none_never (WithHeight ExprTree) expr_starts i (x, j) h) };
  consumes = λ i x j h. absurd (none_never (WithHeight ExprTree) expr_starts i (x, j) h);
}
live_expr most (suc r) some roomy least pos low =
    let v = expr_in_form most r (expr most r) (local_expr most r) some (expr_complete most r (omega (arith, roomy))) (λ fits. live_expr most r some (omega (arith, roomy))) least in
    record { later = v.later; settles = v.settles; consumes = v.consumes }

pub live_path : (most r : ℕ) → 1 ≤ most → r ≤ most → IsViable most NotDot (Part r) (node most r a_path)
unfolding node
live_path most zero some roomy = record {
  later = none_later (WithHeight ExprTree) path_starts most NotDot (Part 0);
  settles = record { at = λ i x j lim h. absurd (none_never (WithHeight ExprTree) path_starts i (x, j) h) };
  consumes = λ i x j h. absurd (none_never (WithHeight ExprTree) path_starts i (x, j) h);
}
live_path most (suc r) some roomy =
    let v = path_in_form most r (expr most r) (local_expr most r) some (expr_complete most r (omega (arith, roomy))) (λ fits. live_expr most r some (omega (arith, roomy))) in
    record { later = v.later; settles = v.settles; consumes = v.consumes }

pub live_member : (most r : ℕ) → 1 ≤ most → r ≤ most → IsViable most NotSelect (Part r) (node most r a_member)
unfolding node
live_member most zero some roomy = record {
  later = none_later (WithHeight ExprTree) path_starts most NotSelect (Part 0);
  settles = record { at = λ i x j lim h. absurd (none_never (WithHeight ExprTree) path_starts i (x, j) h) };
  consumes = λ i x j h. absurd (none_never (WithHeight ExprTree) path_starts i (x, j) h);
}
live_member most (suc r) some roomy =
    let v = member_in_form most r (expr most r) (local_expr most r) some (expr_complete most r (omega (arith, roomy))) (λ fits. live_expr most r some (omega (arith, roomy))) in
    record { later = v.later; settles = v.settles; consumes = v.consumes }

pub live_known_path : (most r : ℕ) → 1 ≤ most → IsViable most NotDot AnyAnswer (a_known_path most r)
unfolding a_known_path
live_known_path most zero some = record {
  later = none_later (ExprTree × NameKind) path_starts most NotDot AnyAnswer;
  settles = record { at = λ i x j lim h. absurd (none_never (ExprTree × NameKind) path_starts i (x, j) h) };
  consumes = λ i x j h. absurd (none_never (ExprTree × NameKind) path_starts i (x, j) h);
}
live_known_path most (suc r) some =
    let v = known_path_form most r (expr most r) (local_expr most r) some in
    record { later = v.later; settles = v.settles; consumes = v.consumes }

-- where there is room for a name, each can be completed from its beginning on; D are the tokens that may come first

module _ (most r : ℕ) (fits : 1 ≤ r) (roomy : r ≤ most) where
  some : 1 ≤ most
  some = omega (arith, fits, roomy)

  pub expr_open : {D : Option Lexeme → Type 0} (least : ℕ) → 1 ≤ least → least ≤ unary_level → D a_name → IsOpen most D Closes (Part r) (expr most r least)
  expr_open least pos low d = let v = live_expr most r some roomy least pos low in record {
    alive = record { fin = record { more = name_tok ∷ []; x = (name_expr, 1); good = (omega arith, fits); opens = λ z cl. d; ends = λ z cl. name_read most r fits roomy least pos low z (omega (arith, cl, pos)) }; later = v.later };
    settles = v.settles;
    heads = λ i y j lim h. inl (v.consumes i y j h);
  }

  pub path_open : {D : Option Lexeme → Type 0} → D a_name → IsOpen most D NotDot (Part r) (node most r a_path)
  path_open d = let v = live_path most r some roomy in record {
    alive = record { fin = record { more = name_tok ∷ []; x = (name_expr, 1); good = (omega arith, fits); opens = λ z cl. d; ends = λ z cl. name_path most r fits roomy z cl }; later = v.later };
    settles = v.settles;
    heads = λ i y j lim h. inl (v.consumes i y j h);
  }

  pub member_open : {D : Option Lexeme → Type 0} → D a_name → IsOpen most D NotSelect (Part r) (node most r a_member)
  member_open d = let v = live_member most r some roomy in record {
    alive = record { fin = record { more = name_tok ∷ []; x = (name_expr, 1); good = (omega arith, fits); opens = λ z cl. d; ends = λ z cl. name_member most r fits roomy z cl }; later = v.later };
    settles = v.settles;
    heads = λ i y j lim h. inl (v.consumes i y j h);
  }

  pub known_path_open : {D : Option Lexeme → Type 0} → D a_name → IsOpen most D NotDot AnyAnswer (a_known_path most r)
  known_path_open d = let v = live_known_path most r some in record {
    alive = record { fin = record { more = name_tok ∷ []; x = (name_expr, name_kind.Plain); good = tt; opens = λ z cl. d; ends = λ z cl. name_known most r fits some z cl }; later = v.later };
    settles = v.settles;
    heads = λ i y j lim h. inl (v.consumes i y j h);
  }

  full : IsCompleteExpr most r (expr most r)
  full = expr_complete most r roomy

  below : 1 ≤ r → (least : ℕ) → 1 ≤ least → least ≤ unary_level → IsViable most Closes (Part r) (expr most r least)
  below _ = live_expr most r some roomy

  pub live_exprs : IsViable most ClosesList (Low r) (some_exprs most r)
  unfolding some_exprs
  live_exprs = let v = exprs_form most r (expr most r) (local_expr most r) some full below fits in record { later = v.later; settles = v.settles; consumes = v.consumes }

  pub exprs_open : {D : Option Lexeme → Type 0} → D a_name → IsOpen most D ClosesList (Low r) (some_exprs most r)
  unfolding some_exprs
  exprs_open d = let v = exprs_goal most r (expr most r) (local_expr most r) some full below fits d in record { alive = v.alive; settles = v.settles; heads = v.heads }

  pub live_range : IsViable most Closes (Low r) (a_range most r)
  unfolding a_range
  live_range = let v = range_form most r (expr most r) (local_expr most r) some full below fits in record { later = v.later; settles = v.settles; consumes = v.consumes }

  pub range_open : {D : Option Lexeme → Type 0} → D a_name → IsOpen most D Closes (Low r) (a_range most r)
  unfolding a_range
  range_open d = let v = goal_of most r (expr most r) (local_expr most r) (range_form most r (expr most r) (local_expr most r) some full below fits) (range_fin most r (expr most r) (local_expr most r) some full below fits d) in
      record { alive = v.alive; settles = v.settles; heads = v.heads }

-- behind a first path or a first operand

pub rest_open : (most r at : ℕ) (first : ExprTree × NameKind) → 1 ≤ most → r ≤ most → 1 ≤ r → IsOpen most Closes Closes (Part r) (node most r (rest_of_path at first))
unfolding node
rest_open most zero at first some roomy fits = absurd (omega (arith, fits))
rest_open most (suc r) at first some roomy fits =
    let v = rest_goal most r (expr most r) (local_expr most r) some (expr_complete most r (omega (arith, roomy))) (λ fits. live_expr most r some (omega (arith, roomy))) at first in
    record { alive = v.alive; settles = v.settles; heads = v.heads }

pub connectives_open : (most r at : ℕ) (first : WithHeight ExprTree) → 1 ≤ most → r ≤ most → Part r first → IsOpen most Closes Closes (Part r) (node most r (rest_of_operand at first))
unfolding node
connectives_open most zero at first some roomy a = absurd (omega (arith, a.0, a.1))
connectives_open most (suc r) at first some roomy a =
    let v = connectives_goal most r (expr most r) (local_expr most r) some (expr_complete most r (omega (arith, roomy))) (λ fits. live_expr most r some (omega (arith, roomy))) at first a in
    record { alive = v.alive; settles = v.settles; heads = v.heads }

-- Where the reading of a part of an expression fails, what was read so far can be completed.
use Rattle.std.proofs.Common.{◌≡◌, ℕ, suc, ◌≤◌, Bool, true, false, List, [], ◌∷◌, ◌++◌, Option, Some, Ok, refl, arith}
use Rattle.svr_token.specs.declared.Lexeme.{Lexeme}
use Rattle.svr_token.specs.declared.Lexeme.TheVariants as lexeme
use Rattle.svr_token.specs.declared.Word.TheVariants as w
use Rattle.svr_token.specs.declared.Mark.TheVariants as m
use Rattle.svr_token.specs.declared.NameKind.{NameKind}
use Rattle.svr_token.specs.declared.NameKind.TheVariants as name_kind
use Rattle.svr_tree.specs.declared.expr.Scope.{Scope}
use Rattle.svr_tree.specs.declared.expr.Scope.TheVariants as scope
use Rattle.svr_tree.specs.Tokens.{Tok}
use Rattle.svr_tree.specs.Operators.{unary_level}
use Rattle.svr_tree.specs.ExprTree.{ExprTree, one, value}
use Rattle.svr_reader.specs.Outcomes.{Turn, go, done, Parser, lexeme_at}
use Rattle.svr_reader.specs.declared.fixed.Fixed.TheVariants as f
use Rattle.svr_reader.specs.Program.{Program, pure, bind, peek, call, loop, run, known_name}
use Rattle.svr_reader.specs.Steps.{same_mark, is_fixed}
use Rattle.svr_reader.specs.Lists.{WithHeight, led, listing_on, choose}
use Rattle.svr_reader.proofs.Steps.{bind_is, choose_false}
use Rattle.svr_reader.proofs.Local.{IsLocal}
use Rattle.svr_reader.proofs.Live.{AnyToken, Finishes}
use Rattle.svr_reader.proofs.LiveLoops.{Then}
use Rattle.svr_reader.proofs.Goals.{Goal, Form, then_goal, then_form, goal_of, pure_goal, take_form, enter_form, peek_form, here_form, refuse_form, weaken_form, any_goal, wide_goal}
use Rattle.svr_reader.proofs.Led.{AnyAnswer, a_name, name_tok, known_name_form, known_name_goal, goal_expect}
use Rattle.svr_reader.proofs.LiveTurns.{led_loop_goal}
use Rattle.svr_reader.proofs.LivePeeks.{Peeks, reads, stops, peek_loop_goal}
use Rattle.svr_reader.proofs.LiveLists.{listing_on_goal, listing_form, listing_goal}
use Rattle.svr_reader.proofs.Layers.{IsViable, Low, Part}
use Rattle.svr_expr.specs.Connectives.{binds}
use Rattle.svr_expr.specs.ExprRules.{Rule, name_step, names_on, path_from, plain_path, local_path, this_path, known_path_by, known_path, path_in, index_on, member_step, member_in, exprs, bound_by, bound, span_on, range_by, range, ranges}
use Rattle.svr_expr_laws.proofs.CompleteParts.{IsCompleteExpr}
use Rattle.svr_expr_laws.proofs.Nodes.{NotDot, NotSelect, name_expr, name_takes}

-- tokens with which no expression goes on
abbrev pub Closes : Option Lexeme → Type 0
Closes q = binds q ≡ 0

-- the same of a list of expressions
abbrev pub ClosesList : Option Lexeme → Type 0
ClosesList q = Closes q × (is_fixed (f.Mark m.Comma) q ≡ false)

pub closes_select : (q : Option Lexeme) → Closes q → NotSelect q
unfolding same_mark
closes_select (Some (lexeme.Mark m.Dot)) h = absurd (omega (arith, h))
closes_select (Some (lexeme.Mark m.OpenBracket)) h = absurd (omega (arith, h))
closes_select _ h = (refl, refl)

closes_brace : ClosesList (Some (lexeme.Mark m.CloseBrace))
unfolding same_mark
closes_brace = (refl, refl)

-- ---- names and paths, of any layer

module _ {K : Type 0} {Ans : K → Type 0} (most r : ℕ) (sub : (k : K) → Parser (Ans k)) (ls : (k : K) → IsLocal (sub k)) (some : 1 ≤ most) where
  abbrev NR : {A : Type 0} → Program K Ans A → Parser A
  NR p = run most r sub p

  abbrev NG : {X : Type 0} → (D C : Option Lexeme → Type 0) → (X → Type 0) → Program K Ans X → Type 0
  NG D C Q q = Goal most r sub ls D C Q q

  abbrev NF : {X : Type 0} → (C : Option Lexeme → Type 0) → (X → Type 0) → Program K Ans X → Type 0
  NF C Q q = Form most r sub ls C Q q

  abbrev Names : Type 0
  Names = List ℕ × NameKind

  abbrev dotted_name : Names → Program K Ans (Turn Names Names)
  dotted_name s = bind known_name (λ n. pure (go (s.0 ++ n.0 ∷ [], n.1)))

  abbrev NameEnds : Turn Names Names → Type 0
  NameEnds = Then most NotDot NotDot AnyAnswer (λ s. NR (led (f.Mark m.Dot) (dotted_name s) (pure (done s)))) AnyAnswer

  dotted_goal : (s : Names) → NG AnyToken NotDot NameEnds (dotted_name s)
  dotted_goal s = then_goal most r sub ls (known_name_goal most r sub ls tt) (λ n _. pure_goal most r sub ls {Q = NameEnds} {x = go (s.0 ++ n.0 ∷ [], n.1)} (tt, λ _ h. h) (λ _ _. tt))

  pub names_on_goal : (first : ℕ × NameKind) → NG NotDot NotDot AnyAnswer (names_on first)
  unfolding names_on name_step
  names_on_goal first = led_loop_goal most r sub ls some NotDot AnyAnswer AnyAnswer (λ s. s) (f.Mark m.Dot) dotted_name (λ _ h. h) (λ s _. dotted_goal s) (λ s _. tt) (first.0 ∷ [], first.1) tt

  pub path_from_form : (at : ℕ) (s : Scope) → NF NotDot AnyAnswer (path_from at s)
  unfolding path_from
  path_from_form at s = then_form most r sub ls (known_name_form most r sub ls) (λ n _. then_goal most r sub ls (any_goal most r sub ls (names_on_goal n)) (λ ns _. pure_goal most r sub ls tt (λ _ h. h)))

  pub path_from_goal : {D : Option Lexeme → Type 0} → D a_name → (at : ℕ) (s : Scope) → NG D NotDot AnyAnswer (path_from at s)
  unfolding path_from
  path_from_goal d at s = then_goal most r sub ls (known_name_goal most r sub ls d) (λ n _. then_goal most r sub ls (any_goal most r sub ls (names_on_goal n)) (λ ns _. pure_goal most r sub ls tt (λ _ h. h)))

  known_path_by_form : (q : Option Lexeme) → NF NotDot AnyAnswer (known_path_by q)
  unfolding local_path this_path plain_path
  known_path_by_form (Some (lexeme.Word w.Local)) = take_form most r sub ls (λ at. then_goal most r sub ls (goal_expect most r sub ls (f.Mark m.DoubleColon) tt) (λ _ _. path_from_goal tt at scope.Local))
  known_path_by_form (Some (lexeme.Word w.This)) = take_form most r sub ls (λ at. then_goal most r sub ls (goal_expect most r sub ls (f.Mark m.Dot) tt) (λ _ _. path_from_goal tt at scope.This))
  known_path_by_form _ = here_form most r sub ls (λ at. path_from_form at scope.Plain)

  pub known_path_form : NF NotDot AnyAnswer known_path
  unfolding known_path
  known_path_form = peek_form most r sub ls known_path_by_form

-- ---- expressions

module _ (most r : ℕ) (sub : ℕ → Parser (WithHeight ExprTree)) (ls : (least : ℕ) → IsLocal (sub least)) (some : 1 ≤ most)
    (complete : IsCompleteExpr most r sub) (hyp : 1 ≤ r → (least : ℕ) → 1 ≤ least → least ≤ unary_level → IsViable most Closes (Part r) (sub least)) where
  abbrev R : {X : Type 0} → Rule X → Parser X
  R p = run most r sub p

  abbrev G : {X : Type 0} → (D C : Option Lexeme → Type 0) → (X → Type 0) → Rule X → Type 0
  G D C Q q = Goal most r sub ls D C Q q

  abbrev F : {X : Type 0} → (C : Option Lexeme → Type 0) → (X → Type 0) → Rule X → Type 0
  F C Q q = Form most r sub ls C Q q

  sub_name : 1 ≤ r → (least : ℕ) → 1 ≤ least → least ≤ unary_level → (z : List Tok) → Closes (lexeme_at z) → sub least (name_tok ∷ z) ≡ Ok ((name_expr, 1), z)
  sub_name fits least pos low z cl = (complete least pos).at name_expr (name_tok ∷ z) z (omega (arith, some)) (refl, low) fits (name_takes z) (omega (arith, cl, pos))

  form_sub : 1 ≤ r → (least : ℕ) → 1 ≤ least → least ≤ unary_level → F Closes (Part r) (call least)
  form_sub fits least pos low = let v = hyp fits least pos low in record { later = v.later; settles = v.settles; consumes = v.consumes }

  pub goal_sub : {D : Option Lexeme → Type 0} → 1 ≤ r → (least : ℕ) → 1 ≤ least → least ≤ unary_level → D a_name → G D Closes (Part r) (call least)
  goal_sub fits least pos low d = goal_of most r sub ls (form_sub fits least pos low) (record { more = name_tok ∷ []; x = (name_expr, 1); good = (omega arith, fits); opens = λ z cl. d; ends = λ z cl. sub_name fits least pos low z cl })

  any_sub : {D : Option Lexeme → Type 0} → 1 ≤ r → D a_name → G D Closes (Part r) (call 1)
  any_sub fits d = goal_sub fits 1 (omega arith) (omega arith) d

  -- ---- lists, bounds, ranges

  one_form : 1 ≤ r → F Closes (Low r) (call 1)
  one_form fits = weaken_form most r sub ls (form_sub fits 1 (omega arith) (omega arith)) (λ x g. g.1)

  one_fin : {E : Option Lexeme → Type 0} → 1 ≤ r → E a_name → Finishes E Closes (Low r) (sub 1)
  one_fin fits d = record { more = name_tok ∷ []; x = (name_expr, 1); good = fits; opens = λ z cl. d; ends = λ z cl. sub_name fits 1 (omega arith) (omega arith) z cl }

  pub exprs_form : 1 ≤ r → F ClosesList (Low r) exprs
  unfolding exprs
  exprs_form fits = listing_form most r sub ls some r Closes ClosesList (λ q h. h.0) (λ q h. h.1) (call 1) (one_form fits) (one_fin {E = AnyToken} fits tt)

  pub exprs_goal : {E : Option Lexeme → Type 0} → 1 ≤ r → E a_name → G E ClosesList (Low r) exprs
  unfolding exprs
  exprs_goal fits d = listing_goal most r sub ls some r Closes ClosesList (λ q h. h.0) (λ q h. h.1) (call 1) (one_form fits) (one_fin fits d)

  pub exprs_on_goal : 1 ≤ r → (s : WithHeight (List ExprTree)) → Low r s → G AnyToken ClosesList (Low r) (listing_on (call 1) s)
  exprs_on_goal fits s low = listing_on_goal most r sub ls some r Closes ClosesList (λ q h. h.0) (λ q h. h.1) (call 1) (one_form fits) (one_fin {E = AnyToken} fits tt) s low

  bound_by_form : 1 ≤ r → (q : Option Lexeme) → F Closes (Low r) (bound_by q)
  bound_by_form fits (Some (lexeme.Mark m.Dollar)) = take_form most r sub ls (λ _. pure_goal most r sub ls (omega arith) (λ _ _. tt))
  bound_by_form fits _ = then_form most r sub ls (form_sub fits 1 (omega arith) (omega arith)) (λ x g. pure_goal most r sub ls g.1 (λ _ h. h))

  goal_bound : 1 ≤ r → G AnyToken Closes (Low r) bound
  unfolding bound
  goal_bound fits = goal_of most r sub ls (peek_form most r sub ls (bound_by_form fits)) (record {
    more = name_tok ∷ [];
    x = (value name_expr, 1);
    good = fits;
    opens = λ z cl. tt;
    ends = λ z cl. bind_is (sub 1 (name_tok ∷ z)) _ (name_expr, 1) z _ (sub_name fits 1 (omega arith) (omega arith) z cl) refl;
  })

  goal_spanned : 1 ≤ r → G AnyToken Closes (Low r) span_on
  unfolding span_on
  goal_spanned fits = then_goal most r sub ls (goal_bound fits) (λ lo g. then_goal most r sub ls (goal_expect most r sub ls (f.Mark m.Colon) refl) (λ _ _.
      then_goal most r sub ls (goal_bound fits) (λ hi g2. then_goal most r sub ls (goal_expect most r sub ls (f.Mark m.CloseBracket) refl) (λ _ _. pure_goal most r sub ls (omega (arith, g, g2)) (λ _ _. tt)))))

  range_by_form : 1 ≤ r → (q : Option Lexeme) → F Closes (Low r) (range_by q)
  range_by_form fits (Some (lexeme.Mark m.OpenBracket)) = take_form most r sub ls (λ _. goal_spanned fits)
  range_by_form fits _ = then_form most r sub ls (form_sub fits 1 (omega arith) (omega arith)) (λ x g. pure_goal most r sub ls g.1 (λ _ h. h))

  pub range_form : 1 ≤ r → F Closes (Low r) range
  unfolding range
  range_form fits = peek_form most r sub ls (range_by_form fits)

  pub range_fin : {E : Option Lexeme → Type 0} → 1 ≤ r → E a_name → Finishes E Closes (Low r) (R range)
  unfolding range
  range_fin fits d = record {
    more = name_tok ∷ [];
    x = (one name_expr, 1);
    good = fits;
    opens = λ z cl. d;
    ends = λ z cl. bind_is (sub 1 (name_tok ∷ z)) _ (name_expr, 1) z _ (sub_name fits 1 (omega arith) (omega arith) z cl) refl;
  }

  pub ranges_goal : 1 ≤ r → G AnyToken ClosesList (Low r) ranges
  unfolding ranges
  ranges_goal fits = listing_goal most r sub ls some r Closes ClosesList (λ q h. h.0) (λ q h. h.1) range (range_form fits) (range_fin {E = AnyToken} fits tt)

  -- ---- paths and their selects

  pub path_in_form : F NotDot (Part (suc r)) path_in
  unfolding path_in
  path_in_form = then_form most r sub ls (known_path_form most r sub ls some) (λ p _. pure_goal most r sub ls (omega arith, omega arith) (λ _ h. h))

  index_on_form : (at : ℕ) (base : WithHeight ExprTree) → Part (suc r) base → F AnyToken (Part (suc r)) (index_on at base)
  unfolding index_on
  index_on_form at base a = enter_form most r sub ls a.1 (λ fits _. then_goal most r sub ls (any_sub (omega (arith, a.0, fits)) tt) (λ x g.
      then_goal most r sub ls (goal_expect most r sub ls (f.Mark m.CloseBracket) refl) (λ _ _. pure_goal most r sub ls (omega arith, omega (arith, fits, g.1)) (λ _ _. tt))))

  abbrev MemberEnds : ℕ → Turn (WithHeight ExprTree) (WithHeight ExprTree) → Type 0
  MemberEnds at = Then most NotSelect NotSelect (Part (suc r)) (λ s. R (bind peek (λ l. choose (is_fixed (f.Mark m.OpenBracket) l) (bind (index_on at s) (λ longer. pure (go longer))) (pure (done s))))) (Part (suc r))

  abbrev member_turn : ℕ → WithHeight ExprTree → Option Lexeme → Rule (Turn (WithHeight ExprTree) (WithHeight ExprTree))
  member_turn at s l = choose (is_fixed (f.Mark m.OpenBracket) l) (bind (index_on at s) (λ longer. pure (go longer))) (pure (done s))

  member_branch : (at : ℕ) (s : WithHeight ExprTree) → Part (suc r) s → (t : Bool) → Peeks most r sub ls NotSelect (MemberEnds at) (done s) (choose t (bind (index_on at s) (λ longer. pure (go longer))) (pure (done s)))
  member_branch at s inv true = reads (then_form most r sub ls (index_on_form at s inv) (λ longer g. pure_goal most r sub ls {Q = MemberEnds at} {x = go longer} (g, λ _ h. h) (λ _ _. tt)))
  member_branch at s inv false = stops (λ i. refl)

  member_goal : (at : ℕ) (base : WithHeight ExprTree) → Part (suc r) base → G NotSelect NotSelect (Part (suc r)) (loop (member_step at) base)
  unfolding member_step
  member_goal at base a = peek_loop_goal most r sub ls NotSelect (Part (suc r)) (Part (suc r)) (member_turn at) (λ x. x) (λ s inv. inv)
      (λ s inv q. member_branch at s inv (is_fixed (f.Mark m.OpenBracket) q)) (λ s q i cl. choose_false most r sub _ _ _ i cl.1) some base a

  pub member_in_form : F NotSelect (Part (suc r)) member_in
  unfolding member_in
  member_in_form = here_form most r sub ls (λ at. then_form most r sub ls path_in_form (λ p g. wide_goal most r sub ls (member_goal at p g) (λ _ h. h.0)))

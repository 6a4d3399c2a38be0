-- Where the reading of a typedef or a property fails, what was read so far can be completed.
use Rattle.std.proofs.Common.{◌≡◌, ℕ, ◌≤◌, max, List, [], ◌∷◌, Option, Some, None, refl, arith}
use Rattle.svr_token.specs.declared.Lexeme.{Lexeme}
use Rattle.svr_token.specs.declared.Lexeme.TheVariants as lexeme
use Rattle.svr_token.specs.declared.Word.TheVariants as w
use Rattle.svr_token.specs.declared.Mark.TheVariants as m
use Rattle.svr_operator.specs.declared.Rand.{Rand}
use Rattle.svr_operator.specs.declared.Rand.TheVariants as rand
use Rattle.svr_tree.specs.ExprTree.{ExprTree}
use Rattle.svr_tree.specs.DeclTree.{DimensionTree, dynamic, queue, size, bounds, PropertyTree, DataTypeTree}
use Rattle.svr_reader.specs.Outcomes.{Parser}
use Rattle.svr_reader.specs.declared.fixed.Fixed.TheVariants as f
use Rattle.svr_reader.specs.Program.{pure, bind, call, run, expect}
use Rattle.svr_reader.specs.Steps.{same_word, same_mark}
use Rattle.svr_reader.specs.Lists.{WithHeight, led, listing}
use Rattle.svr_reader.proofs.Local.{IsLocal}
use Rattle.svr_reader.proofs.Live.{AnyToken}
use Rattle.svr_reader.proofs.Goals.{Goal, Form, then_goal, then_form, pure_goal, any_goal, wide_goal}
use Rattle.svr_reader.proofs.Led.{expect_form, goal_expect, led_form, opt_goal, a_name, name_form, name_goal}
use Rattle.svr_reader.proofs.LiveLists.{listing_goal}
use Rattle.svr_reader.proofs.Layers.{Low}
use Rattle.svr_expr_laws.proofs.LiveParts.{Closes, closes_select}
use Rattle.svr_item_laws.proofs.LiveLed.{led_goal}
use Rattle.svr_decl.specs.DeclRules.{Part, an_expression, Ans, Rule, initial, member, enum_on, plain_definition, definition, typedef_in, size_or_bounds, dimension, dimensions_on, dimensions, declarator, property_on, property_in}
use Rattle.svr_decl_laws.proofs.Before.{AfterType, EndsInitial, EndsDeclarators, NotBracket}
use Rattle.svr_decl_laws.proofs.CompleteMembers.{brace_ends, semicolon_ends}
use Rattle.svr_decl_laws.proofs.LiveTypes.{integer_goal, type_form, type_goal, initial_goal, base_goal}

module _ (most r : ℕ) (sub : (k : Part) → Parser (Ans k)) (ls : (k : Part) → IsLocal (sub k)) (some : 1 ≤ most) (any : (D : Option Lexeme → Type 0) → D a_name → Goal most r sub ls D Closes (Low r) (call an_expression)) where
  abbrev R : {X : Type 0} → Rule X → Parser X
  R p = run most r sub p

  abbrev G : {X : Type 0} → (D C : Option Lexeme → Type 0) → (X → Type 0) → Rule X → Type 0
  G D C Q q = Goal most r sub ls D C Q q

  abbrev F : {X : Type 0} → (C : Option Lexeme → Type 0) → (X → Type 0) → Rule X → Type 0
  F C Q q = Form most r sub ls C Q q

  -- ---- typedefs

  member_goal : {D : Option Lexeme → Type 0} → D a_name → G D EndsInitial (Low r) member
  unfolding member
  member_goal d = then_goal most r sub ls (name_goal most r sub ls d) (λ n _. then_goal most r sub ls (any_goal most r sub ls (initial_goal most r sub ls some any)) (λ e g. pure_goal most r sub ls g (λ _ h. h)))

  member_form : F EndsInitial (Low r) member
  unfolding member
  member_form = then_form most r sub ls (name_form most r sub ls) (λ n _. then_goal most r sub ls (any_goal most r sub ls (initial_goal most r sub ls some any)) (λ e g. pure_goal most r sub ls g (λ _ h. h)))

  members_goal : G AnyToken EndsDeclarators (Low r) (listing member)
  members_goal = listing_goal most r sub ls some r EndsInitial EndsDeclarators (λ q h. h.0) (λ q h. h.1) member member_form (member_goal {D = AnyToken} tt).alive.fin

  enum_goal : G AnyToken AfterType (Low r) enum_on
  unfolding enum_on
  enum_goal = then_goal most r sub ls (any_goal most r sub ls (base_goal most r sub ls some any)) (λ b g. then_goal most r sub ls (goal_expect most r sub ls (f.Mark m.OpenBrace) (refl, refl)) (λ _ _.
      then_goal most r sub ls members_goal (λ ms g2. then_goal most r sub ls (goal_expect most r sub ls (f.Mark m.CloseBrace) brace_ends) (λ _ _. pure_goal most r sub ls (omega (arith, g, g2)) (λ _ _. tt)))))

  abbrev an_int : Option Lexeme → Type 0
  an_int q = q ≡ Some (lexeme.Word w.Int)

  plain_goal : G an_int AfterType (Low r) plain_definition
  unfolding plain_definition
  plain_goal = then_goal most r sub ls (integer_goal most r sub ls some any {D = an_int} refl) (λ t g. pure_goal most r sub ls g (λ _ h. h))

  definition_goal : G AnyToken AfterType (Low r) definition
  unfolding definition same_word
  definition_goal = any_goal most r sub ls (led_goal most r sub ls (f.Word w.Enum) enum_on plain_definition an_int AfterType (Low r) (λ q e. rw e refl) enum_goal plain_goal)

  pub typedef_form : F AnyToken (Low r) typedef_in
  unfolding typedef_in
  typedef_form = then_form most r sub ls (expect_form most r sub ls (f.Word w.TypeDef)) (λ _ _. then_goal most r sub ls definition_goal (λ d g. then_goal most r sub ls (name_goal most r sub ls refl) (λ n _.
      then_goal most r sub ls (goal_expect most r sub ls (f.Mark m.Semicolon) tt) (λ _ _. pure_goal most r sub ls g (λ _ _. tt)))))

  -- ---- dimensions

  abbrev a_close : Option Lexeme → Type 0
  a_close q = q ≡ Some (lexeme.Mark m.CloseBracket)

  abbrev named_first : Option Lexeme → Type 0
  named_first q = q ≡ a_name

  abbrev second : WithHeight ExprTree → Rule (WithHeight DimensionTree)
  second a = bind (call an_expression) (λ b. bind (expect (f.Mark m.CloseBracket)) (λ _. pure (bounds a.0 b.0, max a.1 b.1)))

  abbrev single : WithHeight ExprTree → Rule (WithHeight DimensionTree)
  single a = bind (expect (f.Mark m.CloseBracket)) (λ _. pure (size a.0, a.1))

  second_goal : (a : WithHeight ExprTree) → Low r a → G AnyToken NotBracket (Low r) (second a)
  second_goal a g = then_goal most r sub ls (any AnyToken tt) (λ b g2. then_goal most r sub ls (goal_expect most r sub ls (f.Mark m.CloseBracket) refl) (λ _ _. pure_goal most r sub ls (omega (arith, g, g2)) (λ _ _. tt)))

  single_goal : (a : WithHeight ExprTree) → Low r a → G a_close NotBracket (Low r) (single a)
  single_goal a g = then_goal most r sub ls (goal_expect most r sub ls (f.Mark m.CloseBracket) refl) (λ _ _. pure_goal most r sub ls g (λ _ _. tt))

  ends_goal : (a : WithHeight ExprTree) → Low r a → G Closes NotBracket (Low r) (led (f.Mark m.Colon) (second a) (single a))
  unfolding same_mark
  ends_goal a g = wide_goal most r sub ls (led_goal most r sub ls (f.Mark m.Colon) (second a) (single a) a_close NotBracket (Low r) (λ q e. rw e refl) (second_goal a g) (single_goal a g)) (λ q e. rw e refl)

  size_or_bounds_goal : G named_first NotBracket (Low r) size_or_bounds
  unfolding size_or_bounds
  size_or_bounds_goal = then_goal most r sub ls (any named_first refl) (λ a g. ends_goal a g)

  abbrev queue_end : Rule (WithHeight DimensionTree)
  queue_end = bind (expect (f.Mark m.CloseBracket)) (λ _. pure (queue, 0))

  queue_goal : G AnyToken NotBracket (Low r) queue_end
  queue_goal = then_goal most r sub ls (goal_expect most r sub ls (f.Mark m.CloseBracket) tt) (λ _ _. pure_goal most r sub ls (omega arith) (λ _ _. tt))

  dimension_goal : G AnyToken NotBracket (Low r) dimension
  unfolding dimension same_mark
  dimension_goal = any_goal most r sub ls (led_goal most r sub ls (f.Mark m.CloseBracket) (pure (dynamic, 0)) (led (f.Mark m.Dollar) queue_end size_or_bounds) named_first NotBracket (Low r) (λ q e. rw e refl)
      (pure_goal most r sub ls (omega arith) (λ _ _. tt))
      (led_goal most r sub ls (f.Mark m.Dollar) queue_end size_or_bounds named_first NotBracket (Low r) (λ q e. rw e refl) queue_goal size_or_bounds_goal))

  abbrev inner_dimension : WithHeight DimensionTree → Rule (WithHeight (List DimensionTree))
  inner_dimension a = bind dimension (λ b. pure (a.0 ∷ (b.0 ∷ []), max a.1 b.1))

  dimensions_on_goal : (a : WithHeight DimensionTree) → Low r a → G NotBracket NotBracket (Low r) (dimensions_on a)
  unfolding dimensions_on
  dimensions_on_goal a g = opt_goal most r sub ls (f.Mark m.OpenBracket) (inner_dimension a) (a.0 ∷ [], a.1) NotBracket (Low r) (λ q c. c)
      (then_goal most r sub ls dimension_goal (λ b g2. pure_goal most r sub ls (omega (arith, g, g2)) (λ _ h. h))) g

  dimensions_goal : G NotBracket NotBracket (Low r) dimensions
  unfolding dimensions
  dimensions_goal = opt_goal most r sub ls (f.Mark m.OpenBracket) (bind dimension dimensions_on) ([], 0) NotBracket (Low r) (λ q c. c) (then_goal most r sub ls dimension_goal dimensions_on_goal) (omega arith)

  -- ---- properties

  initial_behind : G NotBracket EndsInitial (Low r) initial
  initial_behind = wide_goal most r sub ls (initial_goal most r sub ls some any) (λ q h. (closes_select q h.0).1)

  declarator_goal : {D : Option Lexeme → Type 0} → D a_name → G D EndsInitial (Low r) declarator
  unfolding declarator
  declarator_goal d = then_goal most r sub ls (name_goal most r sub ls d) (λ n _. then_goal most r sub ls (any_goal most r sub ls dimensions_goal) (λ a g. then_goal most r sub ls initial_behind (λ e g2. pure_goal most r sub ls (omega (arith, g, g2)) (λ _ h. h))))

  declarator_form : F EndsInitial (Low r) declarator
  unfolding declarator
  declarator_form = then_form most r sub ls (name_form most r sub ls) (λ n _. then_goal most r sub ls (any_goal most r sub ls dimensions_goal) (λ a g. then_goal most r sub ls initial_behind (λ e g2. pure_goal most r sub ls (omega (arith, g, g2)) (λ _ h. h))))

  declarators_goal : G AfterType EndsDeclarators (Low r) (listing declarator)
  declarators_goal = listing_goal most r sub ls some r EndsInitial EndsDeclarators (λ q h. h.0) (λ q h. h.1) declarator declarator_form (declarator_goal {D = AfterType} refl).alive.fin

  abbrev behind_type : Rand → WithHeight DataTypeTree → Rule (WithHeight PropertyTree)
  behind_type q t = bind (listing declarator) (λ ds. bind (expect (f.Mark m.Semicolon)) (λ _. pure (record { rand = q; kind = t.0; decls = ds.0 }, max t.1 ds.1)))

  behind_goal : (q : Rand) (t : WithHeight DataTypeTree) → Low r t → G AfterType AnyToken (Low r) (behind_type q t)
  behind_goal q t g = then_goal most r sub ls declarators_goal (λ ds g2. then_goal most r sub ls (goal_expect most r sub ls (f.Mark m.Semicolon) semicolon_ends) (λ _ _. pure_goal most r sub ls (omega (arith, g, g2)) (λ _ h. h)))

  property_on_goal : (q : Rand) → G AnyToken AnyToken (Low r) (property_on q)
  unfolding property_on
  property_on_goal q = then_goal most r sub ls (type_goal most r sub ls some any {D = AnyToken} tt) (λ t g. behind_goal q t g)

  property_on_form : (q : Rand) → F AnyToken (Low r) (property_on q)
  unfolding property_on
  property_on_form q = then_form most r sub ls (type_form most r sub ls some any) (λ t g. behind_goal q t g)

  pub property_form : F AnyToken (Low r) property_in
  unfolding property_in
  property_form = led_form most r sub ls (f.Word w.Rand) (property_on rand.Rand) (led (f.Word w.Randc) (property_on rand.Randc) (property_on rand.State)) AnyToken (Low r) (property_on_goal rand.Rand)
      (led_form most r sub ls (f.Word w.Randc) (property_on rand.Randc) (property_on rand.State) AnyToken (Low r) (property_on_goal rand.Randc) (property_on_form rand.State))

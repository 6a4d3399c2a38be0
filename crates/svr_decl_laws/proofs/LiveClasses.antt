-- Where the reading of a class or a variable fails, what was read so far can be completed.
use Rattle.std.proofs.Common.{◌≡◌, ℕ, ◌≤◌, Bool, true, false, Option, Some, None, refl, arith}
use Rattle.svr_token.specs.declared.Lexeme.{Lexeme}
use Rattle.svr_token.specs.declared.Word.TheVariants as w
use Rattle.svr_token.specs.declared.Mark.TheVariants as m
use Rattle.svr_tree.specs.DeclTree.{DataTypeTree, ClassItemTree, property, block, VarInitTree, value, new}
use Rattle.svr_reader.specs.Outcomes.{Parser}
use Rattle.svr_reader.specs.declared.fixed.Fixed.TheVariants as f
use Rattle.svr_reader.specs.Program.{pure, bind, call, run, expect}
use Rattle.svr_reader.specs.Steps.{same_word, is_fixed}
use Rattle.svr_reader.specs.Lists.{WithHeight, listing, name, parens}
use Rattle.svr_reader.proofs.Local.{IsLocal}
use Rattle.svr_reader.proofs.Live.{AnyToken}
use Rattle.svr_reader.proofs.Goals.{Goal, Form, then_goal, then_form, pure_goal, any_goal}
use Rattle.svr_reader.proofs.Led.{AnyAnswer, expect_form, goal_expect, led_form, opt_goal, a_name, name_form, name_goal}
use Rattle.svr_reader.proofs.LiveLists.{listing_form, listing_goal, until_goal}
use Rattle.svr_reader.proofs.Layers.{Low}
use Rattle.svr_expr_laws.proofs.LiveParts.{Closes}
use Rattle.svr_item_laws.proofs.LiveLed.{led_goal}
use Rattle.svr_decl.specs.DeclRules.{Part, an_expression, the_block_items, Ans, Rule, property_in, block_on, class_item, class_in, var_value, var_initial, var_declarator, vars_on, var_in}
use Rattle.svr_decl_laws.proofs.Optional.{name_behind_goal, parens_goal}
use Rattle.svr_decl_laws.proofs.Before.{EndsInitial, EndsDeclarators, NotExtends, NotColon}
use Rattle.svr_decl_laws.proofs.CompleteMembers.{semicolon_ends}
use Rattle.svr_decl_laws.proofs.CompleteClasses.{no_parens}
use Rattle.svr_decl_laws.proofs.LiveTypes.{type_form}
use Rattle.svr_decl_laws.proofs.LiveMembers.{property_form}

module _ (most r : ℕ) (sub : (k : Part) → Parser (Ans k)) (ls : (k : Part) → IsLocal (sub k)) (some : 1 ≤ most) (any : (D : Option Lexeme → Type 0) → D a_name → Goal most r sub ls D Closes (Low r) (call an_expression)) where
  abbrev R : {X : Type 0} → Rule X → Parser X
  R p = run most r sub p

  abbrev G : {X : Type 0} → (D C : Option Lexeme → Type 0) → (X → Type 0) → Rule X → Type 0
  G D C Q q = Goal most r sub ls D C Q q

  abbrev F : {X : Type 0} → (C : Option Lexeme → Type 0) → (X → Type 0) → Rule X → Type 0
  F C Q q = Form most r sub ls C Q q

  -- ---- variables

  abbrev Inits : Type 0
  Inits = WithHeight (Option VarInitTree)

  abbrev an_object : Rule Inits
  an_object = bind parens (λ c. pure (Some (new c), 0))

  abbrev a_value : Rule Inits
  a_value = bind (call an_expression) (λ e. pure (Some (value e.0), e.1))

  abbrev named_first : Option Lexeme → Type 0
  named_first q = q ≡ a_name

  object_goal : G AnyToken EndsInitial (Low r) an_object
  object_goal = then_goal most r sub ls (any_goal most r sub ls (parens_goal most r sub ls some EndsInitial no_parens)) (λ c _. pure_goal most r sub ls (omega arith) (λ _ h. h))

  value_goal : G named_first EndsInitial (Low r) a_value
  value_goal = then_goal most r sub ls (any named_first refl) (λ e g. pure_goal most r sub ls g (λ q h. h.0))

  var_value_goal : G AnyToken EndsInitial (Low r) var_value
  unfolding var_value same_word
  var_value_goal = any_goal most r sub ls (led_goal most r sub ls (f.Word w.New) an_object a_value named_first EndsInitial (Low r) (λ q e. rw e refl) object_goal value_goal)

  var_initial_goal : G EndsInitial EndsInitial (Low r) var_initial
  unfolding var_initial
  var_initial_goal = opt_goal most r sub ls (f.Mark m.Assign) var_value (None, 0) EndsInitial (Low r) (λ q c. c.1) var_value_goal (omega arith)

  var_declarator_goal : {D : Option Lexeme → Type 0} → D a_name → G D EndsInitial (Low r) var_declarator
  unfolding var_declarator
  var_declarator_goal d = then_goal most r sub ls (name_goal most r sub ls d) (λ n _. then_goal most r sub ls (any_goal most r sub ls var_initial_goal) (λ e g. pure_goal most r sub ls g (λ _ h. h)))

  var_declarator_form : F EndsInitial (Low r) var_declarator
  unfolding var_declarator
  var_declarator_form = then_form most r sub ls (name_form most r sub ls) (λ n _. then_goal most r sub ls (any_goal most r sub ls var_initial_goal) (λ e g. pure_goal most r sub ls g (λ _ h. h)))

  var_declarators_goal : {D : Option Lexeme → Type 0} → D a_name → G D EndsDeclarators (Low r) (listing var_declarator)
  var_declarators_goal {D} d = listing_goal most r sub ls some r EndsInitial EndsDeclarators (λ q h. h.0) (λ q h. h.1) var_declarator var_declarator_form (var_declarator_goal {D = D} d).alive.fin

  var_declarators_form : F EndsDeclarators (Low r) (listing var_declarator)
  var_declarators_form = listing_form most r sub ls some r EndsInitial EndsDeclarators (λ q h. h.0) (λ q h. h.1) var_declarator var_declarator_form (var_declarator_goal {D = AnyToken} tt).alive.fin

  pub vars_on_goal : {D : Option Lexeme → Type 0} → D a_name → (t : WithHeight DataTypeTree) → Low r t → G D AnyToken (Low r) (vars_on t)
  unfolding vars_on
  vars_on_goal d t g = then_goal most r sub ls (var_declarators_goal d) (λ vs g2. then_goal most r sub ls (goal_expect most r sub ls (f.Mark m.Semicolon) semicolon_ends) (λ _ _. pure_goal most r sub ls (omega (arith, g, g2)) (λ _ h. h)))

  pub vars_on_form : (t : WithHeight DataTypeTree) → Low r t → F AnyToken (Low r) (vars_on t)
  unfolding vars_on
  vars_on_form t g = then_form most r sub ls var_declarators_form (λ vs g2. then_goal most r sub ls (goal_expect most r sub ls (f.Mark m.Semicolon) semicolon_ends) (λ _ _. pure_goal most r sub ls (omega (arith, g, g2)) (λ _ h. h)))

  pub var_form : F AnyToken (Low r) var_in
  unfolding var_in
  var_form = then_form most r sub ls (type_form most r sub ls some any) (λ t g. vars_on_goal refl t g)

  -- ---- classes

  module _ (items : Goal most r sub ls AnyToken AnyToken (Low r) (call the_block_items)) where
    block_on_goal : G AnyToken AnyToken (Low r) block_on
    unfolding block_on
    block_on_goal = then_goal most r sub ls (name_goal most r sub ls tt) (λ n _. then_goal most r sub ls (goal_expect most r sub ls (f.Mark m.OpenBrace) tt) (λ _ _. then_goal most r sub ls items (λ xs g. pure_goal most r sub ls g (λ _ h. h))))

    abbrev a_block : Rule (WithHeight ClassItemTree)
    a_block = bind block_on (λ b. pure (block b.0, b.1))

    abbrev a_property : Rule (WithHeight ClassItemTree)
    a_property = bind property_in (λ p. pure (property p.0, p.1))

    class_item_form : F AnyToken (Low r) class_item
    unfolding class_item
    class_item_form = led_form most r sub ls (f.Word w.Constraint) a_block a_property AnyToken (Low r)
        (then_goal most r sub ls block_on_goal (λ b g. pure_goal most r sub ls g (λ _ h. h)))
        (then_form most r sub ls (property_form most r sub ls some any) (λ p g. pure_goal most r sub ls g (λ _ h. h)))

    pub class_form : F NotColon (Low r) class_in
    unfolding class_in same_word
    class_form = then_form most r sub ls (expect_form most r sub ls (f.Word w.Class)) (λ _ _. then_goal most r sub ls (name_goal most r sub ls tt) (λ n _.
        then_goal most r sub ls (any_goal most r sub ls (name_behind_goal most r sub ls some NotExtends (f.Word w.Extends) (λ q h. h))) (λ b _. then_goal most r sub ls (goal_expect most r sub ls (f.Mark m.Semicolon) refl) (λ _ _.
        then_goal most r sub ls (until_goal most r sub ls some r AnyToken (f.Word w.EndClass) tt class_item class_item_form) (λ xs g.
        then_goal most r sub ls (any_goal most r sub ls (name_behind_goal most r sub ls some NotColon (f.Mark m.Colon) (λ q h. h))) (λ l _. pure_goal most r sub ls g (λ _ h. h)))))))

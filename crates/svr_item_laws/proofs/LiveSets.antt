-- Where the reading of a set or of an `else` fails, what was read so far can be completed.
use Rattle.std.proofs.Common.{ℕ, ◌≤◌, ◌∷◌, ◌++◌, Option, Some, refl, ◌∙◌, arith}
use Rattle.svr_token.specs.declared.Lexeme.{Lexeme}
use Rattle.svr_token.specs.declared.Lexeme.TheVariants as lexeme
use Rattle.svr_token.specs.declared.Mark.TheVariants as m
use Rattle.svr_tree.specs.ItemTree.{no_else}
use Rattle.svr_reader.specs.Outcomes.{Parser}
use Rattle.svr_reader.specs.Program.{call, run}
use Rattle.svr_reader.proofs.Steps.{led_yes}
use Rattle.svr_reader.proofs.Local.{IsLocal}
use Rattle.svr_reader.proofs.Live.{AnyToken}
use Rattle.svr_reader.proofs.Goals.{Goal, Form, then_goal, then_form, goal_of, pure_goal}
use Rattle.svr_reader.proofs.Led.{tok, led_form, opt_goal}
use Rattle.svr_reader.proofs.Layers.{Low}
use Rattle.svr_item.specs.ItemRules as rules
use Rattle.svr_item.specs.ItemRules.{Ans, Rule, an_item, items, braced_set, single_set, item_set, else_branch, otherwise, part, item}
use Rattle.svr_item_laws.proofs.Trees.{NotElse, open_brace, close_brace, else_word}
use Rattle.svr_item.proofs.Local.{local_parts}
use Rattle.svr_item_laws.proofs.LiveTakes.{until_any_goal}

module _ (most r : ℕ) (some : 1 ≤ most) (each : Form most r (part most r (item most r)) (local_parts most r) NotElse (Low r) (call an_item)) where
  abbrev sub : (k : rules.Part) → Parser (Ans k)
  sub = part most r (item most r)

  abbrev ls : (k : rules.Part) → IsLocal (sub k)
  ls = local_parts most r

  abbrev R : {X : Type 0} → Rule X → Parser X
  R p = run most r sub p

  abbrev G : {X : Type 0} → (D C : Option Lexeme → Type 0) → (X → Type 0) → Rule X → Type 0
  G D C Q q = Goal most r sub ls D C Q q

  abbrev F : {X : Type 0} → (C : Option Lexeme → Type 0) → (X → Type 0) → Rule X → Type 0
  F C Q q = Form most r sub ls C Q q

  pub items_goal : {D : Option Lexeme → Type 0} → D (Some (lexeme.Mark m.CloseBrace)) → G D AnyToken (Low r) items
  unfolding items
  items_goal d = until_any_goal most r sub ls some r NotElse close_brace refl (call an_item) each d

  braced_goal : G AnyToken NotElse (Low r) braced_set
  unfolding braced_set
  braced_goal = then_goal most r sub ls (items_goal tt) (λ xs g. pure_goal most r sub ls g (λ _ _. tt))

  single_form : F NotElse (Low r) single_set
  unfolding single_set
  single_form = then_form most r sub ls each (λ x g. pure_goal most r sub ls g (λ _ h. h))

  set_form : F NotElse (Low r) item_set
  unfolding item_set
  set_form = led_form most r sub ls open_brace braced_set single_set NotElse (Low r) braced_goal single_form

  pub set_goal : {D : Option Lexeme → Type 0} → D (Some (lexeme.Mark m.OpenBrace)) → G D NotElse (Low r) item_set
  unfolding item_set
  set_goal d = let v = braced_goal.alive.fin in goal_of most r sub ls set_form (record {
    more = tok (lexeme.Mark m.OpenBrace) ∷ v.more;
    x = v.x;
    good = v.good;
    opens = λ z cl. d;
    ends = λ z cl. led_yes most r sub open_brace braced_set single_set (tok (lexeme.Mark m.OpenBrace)) (v.more ++ z) refl ∙ v.ends z cl;
  })

  else_goal : G AnyToken NotElse (Low r) else_branch
  unfolding else_branch
  else_goal = then_goal most r sub ls (set_goal tt) (λ s g. pure_goal most r sub ls g (λ _ h. h))

  pub otherwise_goal : G NotElse NotElse (Low r) otherwise
  unfolding otherwise
  otherwise_goal = opt_goal most r sub ls else_word else_branch (no_else, 0) NotElse (Low r) (λ _ h. h) else_goal (omega arith)

-- The laws of declarations for those that call for them.
use Rattle.std.proofs.Common.{ℕ, ◌≤◌, Option, arith}
use Rattle.svr_token.specs.declared.Lexeme.{Lexeme}
use Rattle.svr_tree.specs.ExprGrammar.{expr_spelling, IsExpr, expr_height}
use Rattle.svr_tree.specs.DeclTree.{named}
use Rattle.svr_tree.specs.DeclGrammar.{typedef_spelling, class_spelling, var_spelling, IsTypedef, IsClass, IsVar, class_height, var_height}
use Rattle.svr_reader.specs.Program.{call}
use Rattle.svr_reader.proofs.Live.{AnyToken}
use Rattle.svr_reader.proofs.Goals.{Goal, weaken_goal}
use Rattle.svr_reader.proofs.Layers.{IsSound, IsComplete, IsViable, IsOpen, Low, complete_of, sound_of, open_of}
use Rattle.svr_reader.proofs.Led.{a_name}
use Rattle.svr_expr.specs.ExprRules.{expr}
use Rattle.svr_expr_laws.proofs.Trees.{level_pos}
use Rattle.svr_expr_laws.proofs.Sound.{expr_sound}
use Rattle.svr_expr_laws.proofs.CompleteParts.{Before}
use Rattle.svr_expr_laws.proofs.Complete.{expr_complete}
use Rattle.svr_expr_laws.proofs.LiveParts.{Closes}
use Rattle.svr_expr_laws.proofs.Live.{expr_open}
use Rattle.svr_item_laws.proofs.Sound.{block_items_sound}
use Rattle.svr_item_laws.proofs.CompleteItems.{block_items_complete}
use Rattle.svr_item_laws.proofs.Live.{block_items_open}
use Rattle.svr_decl.specs.DeclRules.{an_expression, the_block_items, part, typedef, class, var, var_on}
use Rattle.svr_decl_laws.proofs.Before.{NotColon}
use Rattle.svr_decl_laws.proofs.SoundMembers.{type_decl_height, typedef_in_sound}
use Rattle.svr_decl_laws.proofs.SoundClasses.{vars_spelling, IsVarOf, class_in_sound, var_in_sound, vars_sound}
use Rattle.svr_decl_laws.proofs.CompleteMembers.{typedef_in_complete}
use Rattle.svr_decl_laws.proofs.CompleteClasses.{class_in_complete, var_in_complete, vars_complete}
use Rattle.svr_decl.proofs.Local.{local_part}
use Rattle.svr_decl_laws.proofs.LiveMembers.{typedef_form}
use Rattle.svr_decl_laws.proofs.LiveClasses.{vars_on_goal, vars_on_form, var_form, class_form}

-- ---- what is read is such a declaration

any_sound : (most r : ℕ) → IsSound expr_spelling IsExpr expr_height r (expr most r 1)
any_sound most r = sound_of (expr_sound most r 1 (omega arith)) (λ x h. h.0)

pub typedef_sound : (most r : ℕ) → IsSound typedef_spelling IsTypedef type_decl_height r (typedef most r)
unfolding typedef
typedef_sound most r = typedef_in_sound most r (part most r) (any_sound most r)

pub class_sound : (most r : ℕ) → IsSound class_spelling IsClass class_height r (class most r)
unfolding class
class_sound most r = class_in_sound most r (part most r) (any_sound most r) (block_items_sound most r)

pub var_sound : (most r : ℕ) → IsSound var_spelling IsVar var_height r (var most r)
unfolding var
var_sound most r = var_in_sound most r (part most r) (any_sound most r)

-- behind the name of a type
pub var_on_sound : (most r n : ℕ) → IsSound vars_spelling (IsVarOf (named n)) var_height r (var_on most r n)
unfolding var_on
var_on_sound most r n = vars_sound most r (part most r) (any_sound most r) n

-- ---- such a declaration is read

any_complete : (most r : ℕ) → r ≤ most → IsComplete expr_spelling IsExpr expr_height most r (Before 1) (expr most r 1)
any_complete most r roomy = complete_of (expr_complete most r roomy 1 (omega arith)) (λ x h. (h, level_pos x)) (λ q h. h)

pub typedef_complete : (most r : ℕ) → r ≤ most → IsComplete typedef_spelling IsTypedef type_decl_height most r AnyToken (typedef most r)
unfolding typedef
typedef_complete most r roomy = typedef_in_complete most r (part most r) (any_complete most r roomy)

-- before a token that is no `:`
pub class_complete : (most r : ℕ) → r ≤ most → IsComplete class_spelling IsClass class_height most r NotColon (class most r)
unfolding class
class_complete most r roomy = class_in_complete most r (part most r) (any_complete most r roomy) (block_items_complete most r roomy)

pub var_complete : (most r : ℕ) → r ≤ most → IsComplete var_spelling IsVar var_height most r AnyToken (var most r)
unfolding var
var_complete most r roomy = var_in_complete most r (part most r) (any_complete most r roomy)

pub var_on_complete : (most r n : ℕ) → r ≤ most → IsComplete vars_spelling (IsVarOf (named n)) var_height most r AnyToken (var_on most r n)
unfolding var_on
var_on_complete most r n roomy = vars_complete most r (part most r) (any_complete most r roomy) n

-- ---- what was read can be completed, where there is room for a name

module _ (most r : ℕ) (fits : 1 ≤ r) (roomy : r ≤ most) where
  some : 1 ≤ most
  some = omega (arith, fits, roomy)

  any : (D : Option Lexeme → Type 0) → D a_name → Goal most r (part most r) (local_part most r) D Closes (Low r) (call an_expression)
  any D d = weaken_goal most r (part most r) (local_part most r) (open_of most r (part most r) (local_part most r) {k = an_expression} (expr_open most r fits roomy {D = D} 1 (omega arith) (omega arith) d)) (λ x g. g.1)

  pub live_typedef : IsViable most AnyToken (Low r) (typedef most r)
  unfolding typedef
  live_typedef = let v = typedef_form most r (part most r) (local_part most r) some any in record { later = v.later; settles = v.settles; consumes = v.consumes }

  pub live_var : IsViable most AnyToken (Low r) (var most r)
  unfolding var
  live_var = let v = var_form most r (part most r) (local_part most r) some any in record { later = v.later; settles = v.settles; consumes = v.consumes }

  pub live_var_on : (n : ℕ) → IsViable most AnyToken (Low r) (var_on most r n)
  unfolding var_on
  live_var_on n = let v = vars_on_form most r (part most r) (local_part most r) some any (named n, 0) (omega arith) in record { later = v.later; settles = v.settles; consumes = v.consumes }

  pub var_on_open : {D : Option Lexeme → Type 0} → D a_name → (n : ℕ) → IsOpen most D AnyToken (Low r) (var_on most r n)
  unfolding var_on
  var_on_open d n = let v = vars_on_goal most r (part most r) (local_part most r) some any d (named n, 0) (omega arith) in record { alive = v.alive; settles = v.settles; heads = v.heads }

  items : Goal most r (part most r) (local_part most r) AnyToken AnyToken (Low r) (call the_block_items)
  items = open_of most r (part most r) (local_part most r) {k = the_block_items} (block_items_open {D = AnyToken} most r some roomy tt)

  pub live_class : IsViable most NotColon (Low r) (class most r)
  unfolding class
  live_class = let v = class_form most r (part most r) (local_part most r) some any items in record { later = v.later; settles = v.settles; consumes = v.consumes }

use Rattle.std.proofs.Common.{◌≤◌, ℕ, sym, ap, subst, ◌∙◌}
use Rattle.std.proofs.lemmas.Result.{on_ok_weaker}
use Rattle.svr_limits.specs.declared.limit.TheConstants.{ELEMENT_LIMIT}
use Rattle.svr_typed.specs.ExprTerm.{expr_terms}
use Rattle.svr_world.specs.World.{with_numbers}
use Rattle.svr_world.specs.Fits.{IsShort}
use Rattle.svr_script.specs.Numbered.{reading_of_world}
use Rattle.svr_effect.proofs.Computed.{all_long, all_in_world}
use Rattle.svr_effect.proofs.effects.set_pattern.Goals as goal

pub all_assigned-requires-clause-computed : goal.all_assigned-requires-clause-computed
all_assigned-requires-clause-computed c = c.requires.computed

pub replace-requires-clause-short : goal.replace-requires-clause-short
replace-requires-clause-short c =
    subst IsShort (sym c.in_ok-numbers.ensures) (subst (λ (n : ℕ). n ≤ ELEMENT_LIMIT) (sym (all_long (reading_of_world c.args.world.now) c.args.width (expr_terms c.args.values.now))) c.requires.short)

pub returns-clause-effect : goal.returns-clause-effect
returns-clause-effect c =
    let same = c.in_ok-numbers.ensures ∙ all_in_world c.args.world.now c.args.width (expr_terms c.args.values.now) in
    on_ok_weaker c.replace.result (λ h. h ∙ ap (with_numbers c.args.world.now c.args.object c.args.prop) same) c.replace.ensures.replaced

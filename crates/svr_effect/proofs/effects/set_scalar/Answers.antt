use Rattle.std.proofs.Common.{ap, ◌∙◌}
use Rattle.svr_world.specs.World.{with_number}
use Rattle.svr_effect.proofs.effects.set_scalar.Goals as goal

pub assigned-requires-clause-computed : goal.assigned-requires-clause-computed
assigned-requires-clause-computed c = c.requires.computed

pub returns-clause-effect : goal.returns-clause-effect
returns-clause-effect c = c.set.ensures ∙ ap (with_number c.args.world.now c.args.object c.args.prop 0) c.in_ok-number.ensures

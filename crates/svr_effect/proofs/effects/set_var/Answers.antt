use Rattle.std.proofs.Common.{ap, ◌∙◌}
use Rattle.svr_world.specs.World.{with_script}
use Rattle.svr_effect.proofs.effects.set_var.Goals as goal

pub assigned-requires-clause-computed : goal.assigned-requires-clause-computed
assigned-requires-clause-computed c = c.requires.computed

pub returns-clause-effect : goal.returns-clause-effect
returns-clause-effect c = c.script_set.ensures ∙ ap (with_script c.args.world.now c.args.var) c.in_ok-number.ensures

use Rattle.std.proofs.Common.{ap, ◌∙◌}
use Rattle.svr_world.specs.World.{with_block_mode}
use Rattle.svr_effect.proofs.effects.set_block_mode.Goals as goal

pub is_on-requires : goal.is_on-requires
is_on-requires c = c.requires.computed

pub returns-clause-effect : goal.returns-clause-effect
returns-clause-effect c = c.constraint_mode.ensures ∙ ap (with_block_mode c.args.world.now c.args.object c.args.block) c.in_ok-on.ensures

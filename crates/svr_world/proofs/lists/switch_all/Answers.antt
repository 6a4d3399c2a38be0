use Rattle.std.proofs.Common.{rules}
use Rattle.svr_world.proofs.Made.{with_mode_more}
use Rattle.svr_world.proofs.lists.switch_all.Goals as goal

pub loop-at-preserved : goal.loop-at-preserved
loop-at-preserved c = with_mode_more c.args.on c.args.modes.now.items c.loop-at.modes.items c.loop-at.at (search rules) c.loop-at.invariant

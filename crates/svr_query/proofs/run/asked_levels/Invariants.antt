use Rattle.std.proofs.Common.{◌≡◌}
use Rattle.svr_query.proofs.Levels.{AreBegun}
use Rattle.svr_query.proofs.run.asked_levels.Given as goal

abbrev pub invariant-loop-end : goal.invariant-loop-end
invariant-loop-end l = (l.levels ≡ l.end-index) × AreBegun l.search l.assume l.levels

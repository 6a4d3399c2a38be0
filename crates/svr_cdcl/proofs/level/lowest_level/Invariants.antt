use Rattle.std.proofs.Common.{◌<◌, length, take, slice_index}
use Rattle.svr_trail.specs.Trail.{IsUnit}
use Rattle.svr_cdcl.proofs.level.lowest_level.Given as goal

abbrev pub invariant-down : goal.invariant-down
invariant-down l = (l.level < length l.ends) × IsUnit (take (slice_index l.ends l.level) l.trail.entries) l.lits l.fn.pivot

abbrev pub decreases-down : goal.decreases-down
decreases-down l = l.level

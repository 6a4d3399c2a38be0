use Rattle.std.proofs.Common.{length}
use Rattle.svr_cover_union.proofs.ranges.+of_ranges.Given as goal

abbrev pub decreases-of_ranges : goal.decreases-of_ranges
decreases-of_ranges l = length l.ranges.now

use Rattle.std.proofs.Common.{length}
use Rattle.svr_cover_union.proofs.ranges.+of_bins.Given as goal

abbrev pub decreases-of_bins : goal.decreases-of_bins
decreases-of_bins l = length l.bins.now

use Rattle.std.proofs.Common.{◌≡◌, length}
use Rattle.svr_cover.specs.Sampling.{counted_crosses}
use Rattle.svr_cover.proofs.group.count_crosses.Given as goal

abbrev pub invariant-crosses : goal.invariant-crosses
invariant-crosses l = counted_crosses l.points l.values l.counts l.left ≡ counted_crosses l.points l.values l.fn.counts l.crosses

abbrev pub decreases-crosses : goal.decreases-crosses
decreases-crosses l = length l.left

use Rattle.std.proofs.Common.{◌≡◌, length}
use Rattle.svr_cover.specs.Points.{counted_points}
use Rattle.svr_cover.proofs.point.count_points.Given as goal

abbrev pub invariant-points : goal.invariant-points
invariant-points l = counted_points l.values l.counts l.left ≡ counted_points l.values l.fn.counts l.points

abbrev pub decreases-points : goal.decreases-points
decreases-points l = length l.left

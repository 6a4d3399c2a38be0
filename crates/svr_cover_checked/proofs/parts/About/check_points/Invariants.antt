use Rattle.std.proofs.Common.{◌≡◌, length}
use Rattle.svr_cover_checked.specs.Refusals.{points_refusals}
use Rattle.svr_cover_checked.specs.Seen.{seen}
use Rattle.svr_cover_checked.proofs.parts.About.check_points.Given as goal

abbrev pub invariant-points : goal.invariant-points
invariant-points l = points_refusals (seen l.self) l.at l.points ≡ points_refusals (seen l.self) l.at l.left

abbrev pub decreases-points : goal.decreases-points
decreases-points l = length l.left

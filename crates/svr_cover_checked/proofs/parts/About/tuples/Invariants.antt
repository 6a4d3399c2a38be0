use Rattle.std.proofs.Common.{◌≡◌, length}
use Rattle.svr_cover_checked.specs.Refusals.{tuples_from}
use Rattle.svr_cover_checked.specs.Seen.{seen}
use Rattle.svr_cover_checked.proofs.parts.About.tuples.Given as goal

abbrev pub invariant-points : goal.invariant-points
invariant-points l = tuples_from (seen l.self) l.at l.product l.left ≡ tuples_from (seen l.self) l.at 1 l.points

abbrev pub decreases-points : goal.decreases-points
decreases-points l = length l.left

use Rattle.std.proofs.Common.{◌≡◌, ◌++◌, map, length}
use Rattle.svr_cover_checked.specs.Seen.{seen}
use Rattle.svr_cover_made.specs.Plan.{rank_of}
use Rattle.svr_cover_made.proofs.plan.ranks_of.Given as goal

abbrev pub invariant-points : goal.invariant-points
invariant-points l = map (rank_of (seen l.about) l.ranks) l.points ≡ l.done ++ map (rank_of (seen l.about) l.ranks) l.left

abbrev pub decreases-points : goal.decreases-points
decreases-points l = length l.left

use Rattle.std.proofs.Common.{◌≡◌, length}
use Rattle.svr_cover.specs.Tuples.{tuples_hit}
use Rattle.svr_cover.proofs.tuple.tuples_hit.Given as goal

abbrev pub invariant-points : goal.invariant-points
invariant-points l = tuples_hit l.points l.values l.many l.left ≡ tuples_hit l.points l.values 1 l.cross

abbrev pub decreases-points : goal.decreases-points
decreases-points l = length l.left

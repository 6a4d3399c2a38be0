use Rattle.std.proofs.Common.{◌≡◌, length}
use Rattle.svr_cover.specs.Tuples.{start, walked}
use Rattle.svr_cover.proofs.tuple.tuple_at.Given as goal

abbrev pub invariant-points : goal.invariant-points
invariant-points l = walked l.points l.values l.way l.left ≡ walked l.points l.values (start l.fn.place) l.cross

abbrev pub decreases-points : goal.decreases-points
decreases-points l = length l.left

use Rattle.std.proofs.Common.{◌+◌, ◌-◌, length}
use Rattle.svr_cover_union.proofs.Unions.{IsUnion}
use Rattle.svr_cover_union.proofs.union.walked.Given as goal

abbrev pub invariant-starts : goal.invariant-starts
invariant-starts l = IsUnion l.same l.first l.second l.way.done l.way.i l.way.j

abbrev pub decreases-starts : goal.decreases-starts
decreases-starts l = (length l.first - l.way.i) + (length l.second - l.way.j)

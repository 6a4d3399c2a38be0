use Rattle.std.proofs.Common.{◌≡◌}
use Rattle.svr_cover.specs.Tuples.{counted_tuples}
use Rattle.svr_cover.proofs.tuple.count_tuples.Given as goal

abbrev pub invariant-loop-place : goal.invariant-loop-place
invariant-loop-place l = l.counts ≡ counted_tuples l.points l.values l.first l.fn.counts l.cross l.place

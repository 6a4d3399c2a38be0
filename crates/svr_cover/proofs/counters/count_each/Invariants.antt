use Rattle.std.proofs.Common.{◌≡◌, length}
use Rattle.svr_cover.specs.Counters.{counted_from}
use Rattle.svr_cover.proofs.counters.count_each.Given as goal

abbrev pub invariant-bins : goal.invariant-bins
invariant-bins l = counted_from l.first l.counts l.left ≡ counted_from l.first l.fn.counts l.bins

abbrev pub decreases-bins : goal.decreases-bins
decreases-bins l = length l.left

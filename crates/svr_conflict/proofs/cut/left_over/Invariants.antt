use Rattle.std.proofs.Common.{◌≡◌, ◌-◌, drop}
use Rattle.svr_conflict.specs.Cut.{total}
use Rattle.svr_conflict.proofs.cut.left_over.Given as goal

abbrev pub invariant-loop-count : goal.invariant-loop-count
invariant-loop-count l = l.left - total (drop l.count-index l.counts) ≡ l.fn.all - total l.counts

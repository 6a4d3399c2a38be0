use Rattle.std.proofs.Common.{◌≡◌, ◌++◌, drop}
use Rattle.svr_conflict.specs.Cut.{cut_by}
use Rattle.svr_conflict.proofs.cut.cut.Given as goal

abbrev pub invariant-loop-count : goal.invariant-loop-count
invariant-loop-count l = l.groups.items ++ cut_by (drop l.count-index l.counts) l.left ≡ cut_by l.counts l.fn.lits

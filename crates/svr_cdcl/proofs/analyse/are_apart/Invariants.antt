use Rattle.std.proofs.Common.{◌≡◌, drop}
use Rattle.svr_cdcl.specs.Marks.{is_last}
use Rattle.svr_cdcl.proofs.analyse.are_apart.Given as goal

abbrev pub invariant-loop-mark : goal.invariant-loop-mark
invariant-loop-mark l = is_last l.trail.entries l.base l.left l.pivot (drop l.mark-index l.marks) ≡ is_last l.trail.entries l.base l.left l.pivot l.marks

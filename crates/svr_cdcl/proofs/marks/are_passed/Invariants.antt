use Rattle.std.proofs.Common.{◌≡◌, drop}
use Rattle.svr_cdcl.specs.Marks.{are_passed}
use Rattle.svr_cdcl.proofs.marks.are_passed.Given as goal

abbrev pub invariant-loop-mark : goal.invariant-loop-mark
invariant-loop-mark l = are_passed l.trail.entries l.place (drop l.mark-index l.marks) ≡ are_passed l.trail.entries l.place l.marks

use Rattle.std.proofs.Common.{◌≡◌, ◌≤◌, take, true}
use Rattle.svr_cdcl.specs.Marks.{none_between}
use Rattle.svr_cdcl.proofs.marks.behind_marked.Given as goal

abbrev pub invariant-loop-mark : goal.invariant-loop-mark
invariant-loop-mark l = (l.behind ≤ l.place) × (none_between l.trail.entries l.behind l.place (take l.mark-index l.marks) ≡ true)

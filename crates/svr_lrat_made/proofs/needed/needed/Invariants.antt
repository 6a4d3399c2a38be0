use Rattle.std.proofs.Common.{◌≡◌, ◌≤◌, length}
use Rattle.svr_lrat_made.specs.Marks.{AreMarked}
use Rattle.svr_lrat_made.proofs.needed.needed.Given as goal

abbrev pub invariant-loop-left : goal.invariant-loop-left
invariant-loop-left l = record {
  long : length l.marks.items ≡ length l.steps;
  within : l.left ≤ length l.steps;
  marked : AreMarked l.fn.goal l.first l.steps l.left l.marks.items;
}

abbrev pub decreases-loop-left : goal.decreases-loop-left
decreases-loop-left l = l.left

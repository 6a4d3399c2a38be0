use Rattle.std.proofs.Common.{◌≡◌, ◌++◌, reverse, length}
use Rattle.svr_sized.proofs.cut.put_back.Given as goal

abbrev pub invariant-loop-item : goal.invariant-loop-item
invariant-loop-item g l = l.all ++ reverse l.left ≡ l.fn.front ++ reverse l.fn.turned

abbrev pub decreases-loop-item : goal.decreases-loop-item
decreases-loop-item g l = length l.left

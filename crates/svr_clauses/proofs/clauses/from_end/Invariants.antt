use Rattle.std.proofs.Common.{◌≡◌, ◌++◌, reverse, length}
use Rattle.svr_clauses.proofs.clauses.from_end.Given as goal

abbrev pub invariant-loop-item : goal.invariant-loop-item
invariant-loop-item g l = l.turned.items ++ reverse l.left ≡ reverse l.fn.items

abbrev pub decreases-loop-item : goal.decreases-loop-item
decreases-loop-item g l = length l.left

use Rattle.std.proofs.Common.{◌≡◌, ◌++◌, reverse, length}
use Rattle.svr_elab_random.proofs.random.backwards.Given as goal

abbrev pub invariant-loop-class : goal.invariant-loop-class
invariant-loop-class l = l.turned ++ reverse l.rest ≡ reverse l.fn.classes

abbrev pub decreases-loop-class : goal.decreases-loop-class
decreases-loop-class l = length l.rest

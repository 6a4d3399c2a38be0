use Rattle.std.proofs.Common.{◌≡◌, ◌++◌, reverse, length}
use Rattle.svr_elab.proofs.design.turned.Given as goal

abbrev pub invariant-loop-last : goal.invariant-loop-last
invariant-loop-last l = l.turned ++ reverse l.rest ≡ reverse l.fn.blocks

abbrev pub decreases-loop-last : goal.decreases-loop-last
decreases-loop-last l = length l.rest

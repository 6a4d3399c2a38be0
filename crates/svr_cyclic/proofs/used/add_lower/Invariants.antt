use Rattle.std.proofs.Common.{◌≡◌, ◌++◌, take}
use Rattle.svr_cyclic.specs.Values.{lower}
use Rattle.svr_cyclic.proofs.used.add_lower.Given as goal

abbrev pub invariant-loop-one : goal.invariant-loop-one
invariant-loop-one l = l.out ≡ l.initial.out ++ lower l.value (take l.one-index l.used)

use Rattle.std.proofs.Common.{◌≡◌, ◌++◌, take}
use Rattle.svr_cyclic.specs.Values.{higher}
use Rattle.svr_cyclic.proofs.used.add_higher.Given as goal

abbrev pub invariant-loop-one : goal.invariant-loop-one
invariant-loop-one l = l.out ≡ l.initial.out ++ higher l.value (take l.one-index l.used)

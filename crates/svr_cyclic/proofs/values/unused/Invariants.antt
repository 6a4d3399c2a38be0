use Rattle.std.proofs.Common.{◌≡◌, take}
use Rattle.svr_phase.specs.Cyclic.{unused}
use Rattle.svr_cyclic.proofs.values.unused.Given as goal

abbrev pub invariant-loop-value : goal.invariant-loop-value
invariant-loop-value l = l.left.items ≡ unused l.used (take l.value-index l.domain)

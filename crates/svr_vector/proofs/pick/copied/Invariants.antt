use Rattle.std.proofs.Common.{◌≡◌}
use Rattle.svr_vector.specs.Literals.{copies_of}
use Rattle.svr_vector.proofs.pick.copied.Given as goal

abbrev pub invariant-loop-made : goal.invariant-loop-made
invariant-loop-made l = l.whole.items ≡ copies_of l.made l.part

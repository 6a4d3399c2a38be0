use Rattle.std.proofs.Common.{◌≡◌, length}
use Rattle.svr_script.specs.Printed.{member_of}
use Rattle.svr_printed.proofs.names.member_of.Given as goal

abbrev pub invariant-loop-left : goal.invariant-loop-left
invariant-loop-left l = member_of l.left l.value ≡ member_of l.members l.value

abbrev pub decreases-loop-left : goal.decreases-loop-left
decreases-loop-left l = length l.left

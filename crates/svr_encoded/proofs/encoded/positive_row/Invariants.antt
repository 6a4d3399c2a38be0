use Rattle.std.proofs.Common.{◌≡◌, ◌+◌}
use Rattle.svr_encoded.specs.Slots.{positives}
use Rattle.svr_encoded.proofs.encoded.positive_row.Given as goal

abbrev pub invariant-loop-i : goal.invariant-loop-i
invariant-loop-i l = l.ls.items ≡ positives l.first l.i

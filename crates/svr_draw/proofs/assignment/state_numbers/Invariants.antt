use Rattle.std.proofs.Common.{◌≡◌}
use Rattle.svr_frame.specs.Frame.{frame_term}
use Rattle.svr_draw.specs.Drawing as spec
use Rattle.svr_draw.proofs.assignment.state_numbers.Given as goal

abbrev pub invariant-loop-at : goal.invariant-loop-at
invariant-loop-at l = l.numbers ≡ spec.state_numbers (frame_term l.frame) l.prop l.at

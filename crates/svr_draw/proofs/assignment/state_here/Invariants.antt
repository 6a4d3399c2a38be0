use Rattle.std.proofs.Common.{◌≡◌}
use Rattle.svr_frame.specs.Frame.{frame_term}
use Rattle.svr_draw.specs.Drawing as spec
use Rattle.svr_draw.proofs.assignment.state_here.Given as goal

abbrev pub invariant-loop-prop : goal.invariant-loop-prop
invariant-loop-prop l = l.values ≡ spec.state_rows (frame_term l.frame) l.sizes l.prop

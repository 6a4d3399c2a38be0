use Rattle.std.proofs.Common.{◌≡◌}
use Rattle.std.specs.Prelude.{filter}
use Rattle.std.specs.List.{range_with_len}
use Rattle.svr_frame.specs.Frame.{frame_term, is_cyclic}
use Rattle.svr_cyclic.proofs.choose.cyclic_props.Given as goal

abbrev pub invariant-loop-prop : goal.invariant-loop-prop
invariant-loop-prop l = l.props ≡ filter (is_cyclic (frame_term l.frame)) (range_with_len 0 l.prop)

use Rattle.std.proofs.Common.{◌≡◌, ◌++◌, map}
use Rattle.std.specs.Prelude.{filter, not, ◌&&◌}
use Rattle.std.specs.List.{range_with_len}
use Rattle.svr_frame.specs.declared.slot.Slot.TheVariants.{Scalar}
use Rattle.svr_frame.specs.Frame.{frame_term, is_array, is_random, is_cyclic}
use Rattle.svr_expand.proofs.slots.add_scalars.Given as goal

abbrev pub invariant-loop-prop : goal.invariant-loop-prop
invariant-loop-prop l = let f = frame_term l.frame in l.out ≡ l.initial.out ++ map Scalar (filter (λ p. is_random f p && not (is_array f p) && not (is_cyclic f p)) (range_with_len 0 l.prop))

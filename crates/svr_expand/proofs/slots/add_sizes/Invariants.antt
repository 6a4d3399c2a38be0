use Rattle.std.proofs.Common.{◌≡◌, ◌++◌, map}
use Rattle.std.specs.Prelude.{filter}
use Rattle.std.specs.List.{range_with_len}
use Rattle.svr_frame.specs.declared.slot.Slot.TheVariants.{Size}
use Rattle.svr_frame.specs.Frame.{frame_term, has_free_size}
use Rattle.svr_expand.proofs.slots.add_sizes.Given as goal

abbrev pub invariant-loop-prop : goal.invariant-loop-prop
invariant-loop-prop l = l.out ≡ l.initial.out ++ map Size (filter (has_free_size (frame_term l.frame)) (range_with_len 0 l.prop))

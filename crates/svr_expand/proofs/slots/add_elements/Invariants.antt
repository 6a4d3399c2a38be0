use Rattle.std.proofs.Common.{◌≡◌, ◌++◌, map}
use Rattle.std.specs.Prelude.{filter, slice_index}
use Rattle.std.specs.List.{flat_map, range_with_len}
use Rattle.svr_frame.specs.declared.slot.Slot.TheVariants.{Element}
use Rattle.svr_frame.specs.Frame.{frame_term}
use Rattle.svr_frame.specs.Phases.{is_random_array}
use Rattle.svr_expand.proofs.slots.add_elements.Given as goal

abbrev pub invariant-loop-prop : goal.invariant-loop-prop
invariant-loop-prop l = l.out ≡ l.initial.out ++ flat_map (λ p. map (Element p) (range_with_len 0 (slice_index l.sizes p))) (filter (is_random_array (frame_term l.frame)) (range_with_len 0 l.prop))

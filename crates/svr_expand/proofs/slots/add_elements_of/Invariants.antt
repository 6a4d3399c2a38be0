use Rattle.std.proofs.Common.{◌≡◌, ◌++◌, map}
use Rattle.std.specs.List.{range_with_len}
use Rattle.svr_frame.specs.declared.slot.Slot.TheVariants.{Element}
use Rattle.svr_expand.proofs.slots.add_elements_of.Given as goal

abbrev pub invariant-loop-at : goal.invariant-loop-at
invariant-loop-at l = l.out ≡ l.initial.out ++ map (Element l.prop) (range_with_len 0 l.at)

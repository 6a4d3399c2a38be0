use Rattle.std.proofs.Common.{◌≡◌, take}
use Rattle.svr_frame.specs.Frame.{frame_term}
use Rattle.svr_encoded.specs.Slots.{widths_of}
use Rattle.svr_encoded.proofs.encoded.slot_widths.Given as goal

abbrev pub invariant-loop-slot : goal.invariant-loop-slot
invariant-loop-slot l = l.widths.items ≡ widths_of (frame_term l.frame) l.size_bits (take l.slot-index l.slots)

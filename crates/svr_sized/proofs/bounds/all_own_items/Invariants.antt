use Rattle.std.proofs.Common.{◌≡◌, ◌≤◌, ◌+◌, length, drop}
use Rattle.std.specs.List.{flat_map}
use Rattle.svr_frame.specs.Frame.{frame_term}
use Rattle.svr_frame.specs.Phases.{domain_item}
use Rattle.svr_sized.proofs.bounds.all_own_items.Given as goal

abbrev pub invariant-loop-slot : goal.invariant-loop-slot
invariant-loop-slot l = record {
  few : l.count ≤ l.slot-index;
  sum : l.count + length (flat_map (domain_item (frame_term l.frame)) (drop l.slot-index l.slots)) ≡ length (flat_map (domain_item (frame_term l.frame)) l.slots);
}

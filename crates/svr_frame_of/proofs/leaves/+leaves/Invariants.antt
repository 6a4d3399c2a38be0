use Rattle.std.proofs.Common.{◌≡◌, drop}
use Rattle.svr_typed.specs.ItemTerm.{item_terms}
use Rattle.svr_frame.specs.Frame.{frame_term}
use Rattle.svr_frame_of.specs.Freeing.{both, all_leaves}
use Rattle.svr_frame_of.proofs.leaves.+leaves.Given as goal

abbrev pub invariant-all_leaves-loop-item : goal.invariant-all_leaves-loop-item
invariant-all_leaves-loop-item l = both l.known (all_leaves (frame_term l.frame) (item_terms (drop l.item-index l.items))) ≡ all_leaves (frame_term l.frame) (item_terms l.items)

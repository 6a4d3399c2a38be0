use Rattle.std.proofs.Common.{◌≡◌, ◌+◌, drop}
use Rattle.svr_typed.specs.ItemTerm.{item_terms}
use Rattle.svr_eval.specs.Holds.{ItemsAreTyped}
use Rattle.svr_frame.specs.Frame.{frame_term}
use Rattle.svr_counts.specs.Counting as spec
use Rattle.svr_counts.proofs.items.+items.Given as goal

abbrev pub invariant-items_count-loop-item : goal.invariant-items_count-loop-item
invariant-items_count-loop-item l = record {
  typed : ItemsAreTyped (item_terms (drop l.item-index l.items));
  told : l.count + spec.items_number (frame_term l.frame) l.sizes (item_terms (drop l.item-index l.items)) ≡ spec.items_number (frame_term l.frame) l.sizes (item_terms l.items);
}

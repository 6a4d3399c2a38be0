use Rattle.std.proofs.Common.{◌≡◌, ◌++◌, drop}
use Rattle.svr_typed.specs.ItemTerm.{item_terms}
use Rattle.svr_eval.specs.Holds.{ItemsAreTyped}
use Rattle.svr_frame.specs.Frame.{frame_term}
use Rattle.svr_counts.specs.Counting.{numbers}
use Rattle.svr_counts.proofs.items.each_count.Given as goal

abbrev pub invariant-loop-item : goal.invariant-loop-item
invariant-loop-item l = record {
  typed : ItemsAreTyped (item_terms (drop l.item-index l.items));
  told : l.counts ++ numbers (frame_term l.frame) l.sizes (item_terms (drop l.item-index l.items)) ≡ numbers (frame_term l.frame) l.sizes (item_terms l.items);
}

use Rattle.std.proofs.Common.{◌≡◌, length}
use Rattle.svr_typed.specs.ItemTerm.{item_terms}
use Rattle.svr_eval.specs.Reading.{reading_of}
use Rattle.svr_eval.specs.Holds.{ItemsAreTyped, ItemsCanRead}
use Rattle.svr_frame.specs.Frame.{frame_term}
use Rattle.svr_draw.specs.Picking as pick
use Rattle.svr_draw.proofs.pick.from_items.Given as goal

abbrev pub invariant-loop-left : goal.invariant-loop-left
invariant-loop-left l = record {
  typed : ItemsAreTyped (item_terms l.left);
  reads : ItemsCanRead (reading_of l.here) 0 (item_terms l.left);
  told : pick.from_items (frame_term l.frame) (reading_of l.here) l.prop (item_terms l.left) l.word ≡ pick.from_items (frame_term l.frame) (reading_of l.here) l.prop (item_terms l.items) l.word;
}

abbrev pub decreases-loop-left : goal.decreases-loop-left
decreases-loop-left l = length l.left

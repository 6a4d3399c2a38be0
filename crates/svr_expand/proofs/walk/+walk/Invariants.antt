use Rattle.std.proofs.Common.{◌≡◌, ◌+◌, ◌*◌, ◌++◌, length, drop}
use Rattle.svr_typed.specs.declared.item.TItem.{size-TItem}
use Rattle.svr_typed.specs.ItemTerm.{item_terms}
use Rattle.svr_eval.specs.Reading.{reading_of}
use Rattle.svr_expand.specs.Expanded.{place_of, findings, all_found_in, ItemsAreReady}
use Rattle.svr_expand.specs.Loops.{found_within, found_in_loop}
use Rattle.svr_expand.proofs.walk.+walk.Given as goal

abbrev pub invariant-add_items-loop-item : goal.invariant-add_items-loop-item
invariant-add_items-loop-item l = record {
  ready : ItemsAreReady (reading_of l.set.state.now) (length l.env) (item_terms (drop l.item-index l.items));
  told : findings l.out ++ all_found_in l.set (place_of l.at l.env) (item_terms (drop l.item-index l.items)) ≡ findings l.initial.out ++ all_found_in l.set (place_of l.at l.env) (item_terms l.items);
}

abbrev pub invariant-add_turns-loop-i : goal.invariant-add_turns-loop-i
invariant-add_turns-loop-i l = findings l.out ≡ findings l.initial.out ++ found_within l.set (place_of l.at l.env) l.array l.i (item_terms l.body)

abbrev pub invariant-add_loop-loop-i : goal.invariant-add_loop-loop-i
invariant-add_loop-loop-i l = findings l.out ≡ findings l.initial.out ++ found_in_loop l.set (place_of l.at l.env) l.array l.inner l.names l.i (item_terms l.body)

abbrev pub decreases-add_item : goal.decreases-add_item
decreases-add_item l = 8 * size-TItem l.item.now + 1

abbrev pub decreases-add_items : goal.decreases-add_items
decreases-add_items l = 8 * goal.size-add_items l + 2

abbrev pub decreases-add_turns : goal.decreases-add_turns
decreases-add_turns l = 8 * goal.size-add_turns l + 3

abbrev pub decreases-add_row : goal.decreases-add_row
decreases-add_row l = 8 * goal.size-add_row l + 4

abbrev pub decreases-add_loop : goal.decreases-add_loop
decreases-add_loop l = 8 * goal.size-add_loop l + 5

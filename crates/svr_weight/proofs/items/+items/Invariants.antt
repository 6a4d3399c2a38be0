use Rattle.std.proofs.Common.{◌≡◌, ◌≤◌, ◌+◌, ◌-◌, ◌^◌, drop}
use Rattle.svr_typed.specs.ItemTerm.{item_terms}
use Rattle.svr_eval.specs.Holds.{ItemsAreTyped}
use Rattle.svr_frame.specs.Frame.{frame_term}
use Rattle.svr_frame.specs.Weight.{capped}
use Rattle.svr_weight.specs.Weighing as spec
use Rattle.svr_weight.proofs.items.+items.Given as goal

abbrev pub invariant-items_weight-loop-item : goal.invariant-items_weight-loop-item
invariant-items_weight-loop-item l = record {
  typed : ItemsAreTyped (item_terms (drop l.item-index l.items));
  small : l.sum ≤ 2 ^ 128 - 1;
  told : capped (l.sum + spec.items_weight (frame_term l.frame) l.part l.sizes l.around (item_terms (drop l.item-index l.items))) ≡ capped (spec.items_weight (frame_term l.frame) l.part l.sizes l.around (item_terms l.items));
}

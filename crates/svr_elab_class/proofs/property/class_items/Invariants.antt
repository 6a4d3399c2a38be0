use Rattle.std.proofs.Common.{◌≡◌, map, drop}
use Rattle.svr_tree.specs.DeclTree.{class_item_tree}
use Rattle.svr_elab_fault.specs.Refusals.{first_one}
use Rattle.svr_elab_decl.specs.Fits.{ClassItemsFit}
use Rattle.svr_elab_class.specs.Classes as spec
use Rattle.svr_elab_class.specs.Seen.{head_of, class_part}
use Rattle.svr_elab_class.proofs.property.class_items.Given as goal

abbrev pub invariant-loop-item : goal.invariant-loop-item
invariant-loop-item l = record {
  fits : ClassItemsFit 0 (map class_item_tree (drop l.item-index l.list));
  known : spec.class_items first_one (head_of l.head) (class_part l.part) (map class_item_tree (drop l.item-index l.list))
      ≡ spec.class_items first_one (head_of l.head) (class_part l.fn.start) (map class_item_tree l.list);
}

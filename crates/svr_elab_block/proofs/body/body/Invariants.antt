use Rattle.std.proofs.Common.{◌≡◌, drop, length, map}
use Rattle.svr_tree.specs.DeclTree.{class_item_tree}
use Rattle.svr_elab_fault.specs.Refusals.{first_one}
use Rattle.svr_elab_names.specs.Tables.{space_of}
use Rattle.svr_elab_block.specs.Blocks as spec
use Rattle.svr_elab_block.specs.Seen.{body_part}
use Rattle.svr_elab_block.specs.Fits.{BodyFits}
use Rattle.svr_elab_block.proofs.body.body.Given as goal

abbrev pub invariant-loop-item : goal.invariant-loop-item
invariant-loop-item l = record {
  fits : BodyFits (length l.names.loops.now) (map class_item_tree (drop l.item-index l.class.items));
  known : spec.body_items first_one (space_of l.names) (body_part l.part) (map class_item_tree (drop l.item-index l.class.items))
      ≡ spec.body_items first_one (space_of l.names) (spec.no_body first_one) (map class_item_tree l.class.items);
}

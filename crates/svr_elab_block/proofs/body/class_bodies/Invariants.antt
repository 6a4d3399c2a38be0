use Rattle.std.proofs.Common.{◌≡◌, drop, length, map}
use Rattle.svr_token.specs.Names.{names_of}
use Rattle.svr_tree.specs.DeclTree.{class_tree}
use Rattle.svr_elab_fault.specs.Refusals.{first_one}
use Rattle.svr_elab_names.specs.Tables.{space_of}
use Rattle.svr_elab_block.specs.Blocks as spec
use Rattle.svr_elab_block.specs.Chain.{AreRanked}
use Rattle.svr_elab_block.specs.Seen.{bodies_part}
use Rattle.svr_elab_block.specs.Fits.{BodiesFit}
use Rattle.svr_elab_block.proofs.body.class_bodies.Given as goal

abbrev pub invariant-loop-class : goal.invariant-loop-class
invariant-loop-class l = record {
  number : l.number ≡ l.class-index;
  fits : BodiesFit (length l.names.loops.now) (map class_tree (drop l.class-index l.classes));
  known : spec.bodies first_one (space_of l.names) (bodies_part (names_of l.names.names) l.bodies) l.number (map class_tree (drop l.class-index l.classes))
      ≡ spec.bodies first_one (space_of l.names) (spec.no_bodies first_one) 0 (map class_tree l.classes);
  ranks : AreRanked (names_of l.names.names) l.bodies.orders;
}

use Rattle.std.proofs.Common.{◌≡◌, ◌<◌, ◌≤◌, ◌+◌, ◌^◌, map, drop, length}
use Rattle.svr_token.specs.Names.{names_of}
use Rattle.svr_tree.specs.DeclTree.{type_decl_tree, class_tree}
use Rattle.svr_elab_fault.specs.Refusals.{first_one}
use Rattle.svr_elab_names.specs.Tables.{global_of, class_of}
use Rattle.svr_elab_part.specs.Fits.{MembersFit}
use Rattle.svr_elab_type.specs.Types.{declaring}
use Rattle.svr_elab_type.specs.Seen.{globals_part}
use Rattle.svr_elab_tops.specs.InOrder as spec
use Rattle.svr_elab_tops.specs.InOrder.{TypesFit, ClassesFit}
use Rattle.svr_elab_tops.proofs.order.types_and_classes.Given as goal

abbrev pub invariant-loop-top : goal.invariant-loop-top
invariant-loop-top l = record {
  types_passed : l.places.types ≤ l.top-index;
  classes_passed : l.places.classes ≤ l.top-index;
  enums : length l.known.enums + length l.types < 2 ^ 32 + l.places.types;
  classes : length l.known.classes + length l.classes < 2 ^ 32 + l.places.classes;
  members : MembersFit (declaring (names_of l.names) (map global_of l.known.names.entries) (map class_of l.known.classes));
  types_fit : TypesFit 0 (map type_decl_tree (drop l.places.types l.types));
  classes_fit : ClassesFit 0 (map class_tree (drop l.places.classes l.classes));
  known : spec.types_and_classes first_one (globals_part (names_of l.names) l.known) (drop l.top-index l.order) (map type_decl_tree (drop l.places.types l.types)) (map class_tree (drop l.places.classes l.classes))
      ≡ spec.types_and_classes first_one (globals_part (names_of l.names) l.fn.start) l.order (map type_decl_tree l.types) (map class_tree l.classes);
}

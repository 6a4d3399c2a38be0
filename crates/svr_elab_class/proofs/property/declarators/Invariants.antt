use Rattle.std.proofs.Common.{◌≡◌, map, drop}
use Rattle.svr_tree.specs.DeclTree.{declarator_tree}
use Rattle.svr_elab_fault.specs.Refusals.{first_one}
use Rattle.svr_elab_decl.specs.Fits.{DeclaratorsFit}
use Rattle.svr_elab_decl.specs.Seen.{used_of}
use Rattle.svr_elab_class.specs.Classes as spec
use Rattle.svr_elab_class.specs.Seen.{head_of, class_part}
use Rattle.svr_elab_class.proofs.property.declarators.Given as goal

abbrev pub invariant-loop-decl : goal.invariant-loop-decl
invariant-loop-decl l = record {
  fits : DeclaratorsFit 0 (map declarator_tree (drop l.decl-index l.list));
  known : spec.declarators first_one (head_of l.head) (class_part l.part) l.rand (used_of l.used) (map declarator_tree (drop l.decl-index l.list))
      ≡ spec.declarators first_one (head_of l.head) (class_part l.fn.start) l.rand (used_of l.used) (map declarator_tree l.list);
}

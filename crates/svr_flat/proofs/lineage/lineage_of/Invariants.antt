use Rattle.std.proofs.Common.{◌≡◌}
use Rattle.svr_typed.specs.ClassTerm.{class_terms}
use Rattle.svr_flat.specs.Flat.{flat_class_of}
use Rattle.svr_flat.specs.Lineage.{classes_over, flat_if, count_to}
use Rattle.svr_flat.proofs.lineage.lineage_of.Given as goal

abbrev pub invariant-up : goal.invariant-up
invariant-up l = classes_over (class_terms l.classes) l.lineage.items (flat_if (class_terms l.classes) l.next) ≡ flat_class_of (class_terms l.classes) l.fn.class

abbrev pub decreases-up : goal.decreases-up
decreases-up l = count_to l.next

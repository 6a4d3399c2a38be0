use Rattle.std.proofs.Common.{◌≡◌, vec_len}
use Rattle.svr_typed.specs.ClassTerm.{class_terms}
use Rattle.svr_flat.specs.Along.{props_along}
use Rattle.svr_flat.proofs.inheritance.props_of.Given as goal

abbrev pub invariant-loop-class : goal.invariant-loop-class
invariant-loop-class l = props_along (class_terms l.classes) l.lineage.items l.props.items ≡ props_along (class_terms l.classes) l.fn.lineage.items l.base

abbrev pub decreases-loop-class : goal.decreases-loop-class
decreases-loop-class l = vec_len l.lineage

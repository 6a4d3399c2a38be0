use Rattle.std.proofs.Common.{map, ap}
use Rattle.svr_tree.specs.DeclTree.{declarator_tree}
use Rattle.svr_elab_decl.specs.Seen.{used_part}
use Rattle.svr_elab_class.specs.Seen.{head_of, class_part}
use Rattle.svr_elab_class.proofs.Forms.{told, property_is}
use Rattle.svr_elab_class.proofs.property.property_decl.Goals as goal

pub returns : goal.returns
returns c =
    told c.declarators.result c.declarators.ensures
    (λ p is.
    property_is (head_of c.args.head.now) (class_part c.args.part) (class_part c.and_fault-part.result) (class_part p) c.args.decl.now.rand (used_part c.args.used) _ _
    is c.and_fault-part.ensures (ap (map declarator_tree) c.as_slice.ensures))

use Rattle.std.proofs.Common.{map}
use Rattle.svr_tree.specs.DeclTree.{type_tree, declarator_tree}
use Rattle.svr_elab_decl.specs.Seen.{used_part}
use Rattle.svr_elab_class.specs.Seen.{head_of, class_part}
use Rattle.svr_elab_class.proofs.Forms.{told, item_is}
use Rattle.svr_elab_class.proofs.property.property_item.Goals as goal

pub property_decl-requires-clause-kind : goal.property_decl-requires-clause-kind
property_decl-requires-clause-kind c = rw c.in_ok-part.ensures.made at c.data_type-used.ensures.fits

pub returns : goal.returns
returns c =
    let d = c.args.decl.now in
    told c.property_decl.result c.property_decl.ensures
    (λ p is.
    item_is (head_of c.args.head.now) (class_part c.args.part) (class_part p) d.rand (used_part c.in_ok-part.used) _ (type_tree d.kind) (map declarator_tree d.decls)
    (rw c.in_ok-part.ensures.held at is) (rw c.in_ok-part.ensures.made at c.data_type-used.ensures.value) (rw c.as_ref.ensures at c.behind.ensures.space))

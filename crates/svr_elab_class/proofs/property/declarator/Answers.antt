use Rattle.std.proofs.Common.{map, ap}
use Rattle.svr_tree.specs.DeclTree.{declarator_tree, dimension_tree}
use Rattle.svr_elab_decl.specs.Seen.{dims_part, used_of}
use Rattle.svr_elab_class.specs.Seen.{head_of, class_part}
use Rattle.svr_elab_class.proofs.Forms.{told, declarator_is}
use Rattle.svr_elab_class.proofs.property.declarator.Goals as goal

pub returns : goal.returns
returns c =
    let first = c.in_ok-part.ensures in
    let second = c.in_ok-part-2.ensures in
    told c.and_property.result c.and_property.ensures
    (λ p is.
    declarator_is (head_of c.args.head.now) (class_part c.args.part) c.args.rand (used_of c.args.used) (declarator_tree c.args.decl.now) (class_part p) (dims_part c.in_ok-part.dims) _ _ _ _ _ _
    (rw (second.held, first.held) at is) (rw first.made at c.dims_of-dims.ensures) (ap (map dimension_tree) c.as_slice.ensures) (rw c.as_ref.ensures at c.behind.ensures.space)
    (rw second.made at c.initial_value-first.ensures.number) (rw second.made at c.initial_value-first.ensures.fault) c.kind.ensures (rw (c.as_ref-2.ensures, first.held) at c.behind-2.ensures.space))

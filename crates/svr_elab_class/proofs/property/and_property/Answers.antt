use Rattle.std.proofs.Common.{sym, ◌∙◌}
use Rattle.std.proofs.lemmas.List.{length-map}
use Rattle.svr_elab_names.specs.Tables.{prop_of}
use Rattle.svr_elab_decl.specs.Seen.{dims_part, used_of}
use Rattle.svr_elab_class.specs.Seen.{head_of, class_part}
use Rattle.svr_elab_class.proofs.Forms.{told, and_property_is}
use Rattle.svr_elab_class.proofs.property.and_property.Goals as goal

pub returns : goal.returns
returns c =
    told c.with_property.result c.with_property.ensures
    (λ p is.
    and_property_is (head_of c.args.head.now) (class_part c.args.part) (class_part p) c.args.name c.args.rand (used_of c.args.used) c.args.first.number c.args.first.fault (dims_part c.args.dims)
    _ _ _ _ _ _ _ _ _ _ _
    is c.name-spelled.ensures c.is_among.ensures ((rw c.as_ref.ensures at c.len-count.ensures.len) ∙ sym (length-map c.args.part.props.value.entries prop_of)) c.is_inherited.ensures c.kind-kind.ensures c.is_wide_cycle.ensures c.property_fault-own.ensures
    c.earlier.ensures c.earlier-fault.ensures c.number_behind.ensures c.property_of-property.ensures)

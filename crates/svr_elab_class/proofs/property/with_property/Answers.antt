use Rattle.std.proofs.Common.{sym, ◌∙◌}
use Rattle.svr_elab_class.specs.Seen.{class_part}
use Rattle.svr_elab_class.proofs.Forms.{property_twice, property_more}
use Rattle.svr_elab_class.proofs.property.with_property.Goals as goal

pub returns-then-is_among : goal.returns-then-is_among
returns-then-is_among c =
    property_twice (class_part c.args.part) (class_part c.and_fault.result) c.args.name.now c.args.property c.args.first c.args.fault c.and_fault.ensures (sym c.is_among.ensures ∙ c.if-is_among.true)

pub returns : goal.returns
returns c =
    let made = c.in_ok-part.ensures.made in
    rw c.in_ok-part.ensures.held
    (property_more (class_part c.args.part) c.args.name.now c.args.property c.args.first c.args.fault _ _ _ _
    (rw (rw made at c.both.ensures.first) at c.and_own-props.ensures) c.and_array-arrays.ensures (rw (rw made at c.both.ensures.second) at c.with_name-own.ensures)
    c.earlier-fault.ensures (sym c.is_among.ensures ∙ c.if-is_among.false))

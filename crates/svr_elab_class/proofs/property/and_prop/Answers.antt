use Rattle.svr_elab_names.specs.declared.PropEntry.{PropEntry}
use Rattle.svr_elab_class.proofs.Tables.{put_last, left_out}
use Rattle.svr_elab_class.proofs.property.and_prop.Goals as goal

pub returns-then-is_some : goal.returns-then-is_some
returns-then-is_some c =
    let v : PropEntry = record { property = c.args.property; first = c.args.first } in
    left_out c.args.name v c.args.props.now.entries c.get.result c.is_some.result c.get.ensures.value c.is_some.ensures c.if-is_some.true

pub returns-in-Ok : goal.returns-in-Ok
returns-in-Ok c =
    let v : PropEntry = record { property = c.args.property; first = c.args.first } in
    put_last c.args.name v c.args.props.now.entries _ c.get.result c.is_some.result c.get.ensures.value c.is_some.ensures c.if-is_some.false c.in-Ok.ensures.entries

use Rattle.svr_elab_class.proofs.Tables.{found_named}
use Rattle.svr_elab_class.proofs.head.has_property.Goals as goal

pub returns : goal.returns
returns c = found_named c.args.name c.args.props.now.entries c.get.result c.is_some.result c.get.ensures.value c.is_some.ensures

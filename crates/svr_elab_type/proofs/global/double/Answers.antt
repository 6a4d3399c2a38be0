use Rattle.svr_elab_type.proofs.Added.{declared_twice}
use Rattle.svr_elab_type.proofs.global.double.Goals as goal

pub returns : goal.returns
returns c = declared_twice c.args.name c.args.globals.now.entries c.get.result c.is_some.result c.args.at _ c.get.ensures.value c.is_some.ensures c.when.ensures

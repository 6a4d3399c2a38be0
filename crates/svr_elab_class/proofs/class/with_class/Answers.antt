use Rattle.svr_elab_class.specs.Seen.{class_part}
use Rattle.svr_elab_class.proofs.Declared.{class_pushed, one_longer}
use Rattle.svr_elab_class.proofs.class.with_class.Goals as goal

pub returns-in-Ok-clause-classes : goal.returns-in-Ok-clause-classes
returns-in-Ok-clause-classes c =
    class_pushed c.args.globals.classes _ c.as_slice.result.now c.class_names-class.result c.args.base c.args.name.now (class_part c.args.part)
    c.in-Ok.ensures.ok c.class_names-class.ensures c.as_slice.ensures

pub returns-in-Ok-clause-count : goal.returns-in-Ok-clause-count
returns-in-Ok-clause-count c = one_longer c.args.globals.classes _ c.class_names-class.result c.in-Ok.ensures.ok

use Rattle.std.proofs.Common.{rules}
use Rattle.svr_elab_unit.proofs.Added.{refused_is}
use Rattle.svr_elab_unit.proofs.vars.var_fault.Goals as goal

pub returns : goal.returns
returns c =
    refused_is c.args.spelled c.args.vars.now.entries c.get.result c.is_some-double.result _ c.args.before c.args.name c.when.result c.when-2.result _
    c.get.ensures.value c.is_some-double.ensures c.when.ensures (search rules) c.when-2.ensures c.earlier.ensures

use Rattle.svr_expr.proofs.Pops.{popped}
use Rattle.svr_expr.proofs.reduce.all_but_last.Goals as goal

pub returns : goal.returns
returns c = popped c.args.names c.pop.new.self c.pop.result c.pop.ensures

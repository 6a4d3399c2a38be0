use Rattle.std.proofs.Common.{sym}
use Rattle.svr_seq.proofs.Lookup.{no_rules}
use Rattle.svr_seq.proofs.line.rules_of.Goals as goal

pub returns-in-None : goal.returns-in-None
returns-in-None c = no_rules c.args.seq.now.prods c.args.prod (sym c.in-None.ensures.value)

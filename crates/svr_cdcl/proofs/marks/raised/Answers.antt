use Rattle.std.proofs.Common.{arith, inl, inr}
use Rattle.svr_cdcl.proofs.Passed.{between-at, between-behind}
use Rattle.svr_cdcl.proofs.marks.raised.Goals as goal

pub returns-clause-between : goal.returns-clause-between
returns-clause-between c = between-at c.args.trail.now.entries c.falsified_at-at.result c.args.place c.args.lit (omega arith) c.requires.place c.falsified_at-at.ensures

use Rattle.svr_cdcl.proofs.Passed.{between-same}
use Rattle.svr_cdcl.proofs.marks.next_place.Goals as goal

pub returns-then-unmarked-len-clause-between : goal.returns-then-unmarked-len-clause-between
returns-then-unmarked-len-clause-between c = between-same c.args.trail.now.entries c.args.place c.args.marks.now.entries

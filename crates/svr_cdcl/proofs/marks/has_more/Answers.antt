use Rattle.svr_cdcl.proofs.Passed.{passed-at_0}
use Rattle.svr_cdcl.proofs.marks.has_more.Goals as goal

pub returns-then-place-eq0-clause-done : goal.returns-then-place-eq0-clause-done
returns-then-place-eq0-clause-done c = λ _. rw c.if-place-eq0.true (passed-at_0 c.args.trail.now.entries c.args.marks.now.entries)

use Rattle.std.proofs.Common.{◌≡◌, ◌-◌, length, take, true}
use Rattle.svr_query.specs.Logged.{are_true}
use Rattle.svr_query.proofs.run.go_on.Given as goal

abbrev pub invariant-assumed : goal.invariant-assumed
invariant-assumed l = are_true l.search.entries (take l.seen l.assume) ≡ true

abbrev pub decreases-assumed : goal.decreases-assumed
decreases-assumed l = length l.assume - l.seen

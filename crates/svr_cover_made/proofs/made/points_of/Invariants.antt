use Rattle.std.proofs.Common.{length}
use Rattle.svr_cover_made.proofs.OneByOne.{HavePoints}
use Rattle.svr_cover_made.proofs.made.points_of.Given as goal

abbrev pub invariant-plans : goal.invariant-plans
invariant-plans l = HavePoints l.plans l.left l.done

abbrev pub decreases-plans : goal.decreases-plans
decreases-plans l = length l.left

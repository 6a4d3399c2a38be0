use Rattle.std.proofs.Common.{◌≡◌, ◌++◌, length}
use Rattle.svr_cover_made.specs.Plan.{ranks}
use Rattle.svr_cover_made.proofs.plan.ranks.Given as goal

abbrev pub invariant-parts : goal.invariant-parts
invariant-parts l = ranks 0 l.parts ≡ l.done ++ ranks l.rank l.left

abbrev pub decreases-parts : goal.decreases-parts
decreases-parts l = length l.left

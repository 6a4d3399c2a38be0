use Rattle.std.proofs.Common.{◌≡◌}
use Rattle.svr_soft.specs.Kept.{ranks_to}
use Rattle.svr_soft.proofs.priority.ranks.Given as goal

abbrev pub invariant-loop-place : goal.invariant-loop-place
invariant-loop-place l = l.ranks.items ≡ ranks_to l.place

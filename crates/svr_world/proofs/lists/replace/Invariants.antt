use Rattle.std.proofs.Common.{◌≡◌, length}
use Rattle.svr_world.specs.World.{with_lists}
use Rattle.svr_world.proofs.lists.replace.Given as goal

abbrev pub invariant-loop-one : goal.invariant-loop-one
invariant-loop-one l = with_lists l.lists.items l.rest ≡ with_lists l.initial.lists.items l.initial.rest

abbrev pub decreases-loop-one : goal.decreases-loop-one
decreases-loop-one l = length l.rest

use Rattle.std.proofs.Common.{length, ◌-◌}
use Rattle.std.specs.Prelude.{⊤}
use Rattle.svr_query.proofs.run.place_behind.Given as goal

abbrev pub invariant-places : goal.invariant-places
invariant-places l = ⊤

abbrev pub decreases-places : goal.decreases-places
decreases-places l = length l.assume - l.place

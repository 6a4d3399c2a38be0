use Rattle.std.proofs.Common.{◌≡◌, ◌++◌, map, length}
use Rattle.svr_typed.specs.ClassTerm.{flat_term}
use Rattle.svr_coverage.specs.Classes.{nothing}
use Rattle.svr_coverage.proofs.classes.nothing_of_each.Given as goal

abbrev pub invariant-classes : goal.invariant-classes
invariant-classes l = map nothing l.classes ≡ map flat_term l.flats ++ map nothing l.left

abbrev pub decreases-classes : goal.decreases-classes
decreases-classes l = length l.left

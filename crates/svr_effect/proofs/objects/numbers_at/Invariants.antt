use Rattle.std.proofs.Common.{◌≡◌, ◌++◌, map, length}
use Rattle.svr_effect.specs.Objects.{numbers_in}
use Rattle.svr_effect.proofs.objects.numbers_at.Given as goal

abbrev pub invariant-places : goal.invariant-places
invariant-places l = l.rows ++ map (numbers_in l.world) l.left ≡ map (numbers_in l.world) l.places

abbrev pub decreases-places : goal.decreases-places
decreases-places l = length l.left

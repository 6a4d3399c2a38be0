use Rattle.std.proofs.Common.{◌≡◌, ◌++◌, map, length}
use Rattle.svr_effect.specs.Objects.{size_in}
use Rattle.svr_effect.proofs.objects.sizes_at.Given as goal

abbrev pub invariant-places : goal.invariant-places
invariant-places l = l.sizes ++ map (size_in l.world) l.left ≡ map (size_in l.world) l.places

abbrev pub decreases-places : goal.decreases-places
decreases-places l = length l.left

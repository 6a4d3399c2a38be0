use Rattle.std.proofs.Common.{◌≡◌, ◌++◌, map, length}
use Rattle.std.specs.Prelude.{slice_index}
use Rattle.svr_effect.proofs.objects.variables_at.Given as goal

abbrev pub invariant-variables : goal.invariant-variables
invariant-variables l = l.numbers ++ map (slice_index l.script) l.left ≡ map (slice_index l.script) l.variables

abbrev pub decreases-variables : goal.decreases-variables
decreases-variables l = length l.left

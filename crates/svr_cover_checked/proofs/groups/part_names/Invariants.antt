use Rattle.std.proofs.Common.{◌≡◌, ◌++◌, map, length}
use Rattle.svr_cover_checked.specs.Refusals.{part_name}
use Rattle.svr_cover_checked.proofs.groups.part_names.Given as goal

abbrev pub invariant-parts : goal.invariant-parts
invariant-parts l = map part_name l.parts ≡ l.done ++ map part_name l.left

abbrev pub decreases-parts : goal.decreases-parts
decreases-parts l = length l.left

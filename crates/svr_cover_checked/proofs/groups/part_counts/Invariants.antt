use Rattle.std.proofs.Common.{◌≡◌, ◌++◌, map, length}
use Rattle.svr_token.specs.Names.{names_of}
use Rattle.svr_cover_checked.specs.Refusals.{part_count}
use Rattle.svr_cover_checked.proofs.groups.part_counts.Given as goal

abbrev pub invariant-parts : goal.invariant-parts
invariant-parts l = map (part_count (names_of l.names)) l.parts ≡ l.done ++ map (part_count (names_of l.names)) l.left

abbrev pub decreases-parts : goal.decreases-parts
decreases-parts l = length l.left

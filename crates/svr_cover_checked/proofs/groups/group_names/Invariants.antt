use Rattle.std.proofs.Common.{◌≡◌, ◌++◌, map, length}
use Rattle.svr_cover_checked.specs.Refusals.{group_name}
use Rattle.svr_cover_checked.proofs.groups.group_names.Given as goal

abbrev pub invariant-groups : goal.invariant-groups
invariant-groups l = map group_name l.groups ≡ l.done ++ map group_name l.left

abbrev pub decreases-groups : goal.decreases-groups
decreases-groups l = length l.left

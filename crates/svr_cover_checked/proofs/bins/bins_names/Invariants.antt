use Rattle.std.proofs.Common.{◌≡◌, ◌++◌, map, length}
use Rattle.svr_cover_checked.specs.Refusals.{bins_name}
use Rattle.svr_cover_checked.proofs.bins.bins_names.Given as goal

abbrev pub invariant-bins : goal.invariant-bins
invariant-bins l = map bins_name l.bins ≡ l.done ++ map bins_name l.left

abbrev pub decreases-bins : goal.decreases-bins
decreases-bins l = length l.left

use Rattle.std.proofs.Common.{◌≡◌, ◌++◌, map, length}
use Rattle.svr_coverage.specs.Script.{blank}
use Rattle.svr_coverage.proofs.script.blanked.Given as goal

abbrev pub invariant-bytes : goal.invariant-bytes
invariant-bytes l = map blank l.bytes ≡ l.script.items ++ map blank l.left

abbrev pub decreases-bytes : goal.decreases-bytes
decreases-bytes l = length l.left

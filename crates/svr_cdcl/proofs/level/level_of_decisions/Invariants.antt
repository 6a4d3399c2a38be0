use Rattle.std.proofs.Common.{◌≡◌, ◌≤◌, true, length, take, slice_index_or}
use Rattle.svr_trail.specs.Trail.{is_falsified}
use Rattle.svr_cdcl.proofs.level.level_of_decisions.Given as goal

abbrev pub invariant-down : goal.invariant-down
invariant-down l =
    (l.top ≤ length l.ends) × (is_falsified (take (slice_index_or l.ends l.top (length l.trail.entries)) l.trail.entries) l.lits ≡ true)

abbrev pub decreases-down : goal.decreases-down
decreases-down l = l.top

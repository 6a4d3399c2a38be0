use Rattle.std.proofs.Common.{◌≡◌, ℕ, ◌+◌, ◌-◌, [], length, get_or}
use Rattle.svr_values.proofs.chosen.grow.Given as goal

abbrev pub invariant-rows : goal.invariant-rows
invariant-rows l = (p : ℕ) → get_or l.rows p [] ≡ get_or l.fn.rows p []

abbrev pub decreases-rows : goal.decreases-rows
decreases-rows l = l.prop + 1 - length l.rows

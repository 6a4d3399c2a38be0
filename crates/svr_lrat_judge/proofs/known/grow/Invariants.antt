use Rattle.std.proofs.Common.{◌≡◌, ℕ, ◌+◌, ◌-◌, length, get_or}
use Rattle.svr_lrat_judge.specs.Marks.{unmarked}
use Rattle.svr_lrat_judge.proofs.known.grow.Given as goal

abbrev pub invariant-loop-marks : goal.invariant-loop-marks
invariant-loop-marks l = (v : ℕ) → get_or l.marks.items v unmarked ≡ get_or l.fn.marks.items v unmarked

abbrev pub decreases-loop-marks : goal.decreases-loop-marks
decreases-loop-marks l = l.var + 1 - length l.marks.items

use Rattle.std.proofs.Common.{◌≡◌, ◌≤◌, ℕ, map, length, drop}
use Rattle.std.specs.Prelude.{slice_index, slice_index_or, []}
use Rattle.svr_frame.specs.declared.slot.Slot.TheVariants.{Scalar}
use Rattle.svr_draw.specs.Preferred.{number_in}
use Rattle.svr_values.proofs.chosen.put_all.Given as goal

abbrev pub invariant-loop-at : goal.invariant-loop-at
invariant-loop-at l = record {
  within : l.at ≤ length l.chosen;
  numbers : (p i : ℕ) → slice_index (slice_index_or l.all p []) i ≡ number_in (map (λ (c : ℕ × ℕ). (Scalar c.0, c.1)) (drop l.at l.chosen)) p i (slice_index (slice_index_or l.fn.rows p []) i);
}

abbrev pub decreases-loop-at : goal.decreases-loop-at
decreases-loop-at l = l.at

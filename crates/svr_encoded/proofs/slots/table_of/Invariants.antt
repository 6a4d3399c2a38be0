use Rattle.std.proofs.Common.{◌≡◌, ◌≤◌, ℕ, length, drop}
use Rattle.svr_frame.specs.Satisfaction.{is_at, is_size_of}
use Rattle.svr_inputs.specs.Inputs.{number_row, size_row}
use Rattle.svr_encoded.specs.Slots.{place_where}
use Rattle.svr_encoded.proofs.slots.table_of.Given as goal

abbrev pub invariant-loop-at : goal.invariant-loop-at
invariant-loop-at l = record {
  within : l.at ≤ length l.slots;
  numbers : (p j : ℕ) → number_row l.table p j ≡ place_where (is_at p j) l.at (drop l.at l.slots);
  sizes : (p : ℕ) → size_row l.table p ≡ place_where (is_size_of p) l.at (drop l.at l.slots);
}

abbrev pub decreases-loop-at : goal.decreases-loop-at
decreases-loop-at l = l.at

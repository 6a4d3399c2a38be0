use Rattle.std.proofs.Common.{◌≡◌, ℕ, ◌<◌}
use Rattle.svr_gate.specs.Gates.{table_value}
use Rattle.svr_gate.proofs.fold.is_always.Given as goal

abbrev pub invariant-loop-row : goal.invariant-loop-row
invariant-loop-row l = (i : ℕ) → i < l.row → table_value l.table i ≡ l.value

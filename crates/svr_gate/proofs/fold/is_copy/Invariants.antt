use Rattle.std.proofs.Common.{◌≡◌, ℕ, ◌<◌, ◌/◌, ◌%◌, ◌^◌, eqb}
use Rattle.svr_gate.specs.Gates.{table_value, copy_of}
use Rattle.svr_gate.proofs.fold.is_copy.Given as goal

abbrev pub invariant-loop-row : goal.invariant-loop-row
invariant-loop-row l = (i : ℕ) → i < l.row → table_value l.table i ≡ copy_of l.same (eqb (i / 2 ^ l.place % 2) 1)

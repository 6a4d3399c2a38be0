use Rattle.std.proofs.Common.{◌≡◌}
use Rattle.svr_gate.specs.Answers.{open_rows}
use Rattle.svr_gate.proofs.known.open_table.Given as goal

abbrev pub invariant-loop-row : goal.invariant-loop-row
invariant-loop-row l = l.sum ≡ open_rows l.table l.one l.ins l.row

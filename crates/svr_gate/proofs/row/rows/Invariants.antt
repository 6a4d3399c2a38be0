use Rattle.std.proofs.Common.{◌≡◌, ◌≤◌, map}
use Rattle.std.specs.Prelude.{vec_len, vec_capacity}
use Rattle.svr_gate.specs.Covers.{cube_clause, rows_upto}
use Rattle.svr_gate.proofs.row.rows.Given as goal

abbrev pub invariant-loop-row : goal.invariant-loop-row
invariant-loop-row l = record {
  items : l.clauses.items ≡ map (cube_clause l.table l.ins l.out) (rows_upto l.row);
  len : vec_len l.clauses ≡ l.row;
  room : l.count ≤ vec_capacity l.clauses;
}

use Rattle.std.proofs.Common.{◌≡◌, ◌≤◌, map, take, length}
use Rattle.std.specs.Prelude.{vec_len, vec_capacity}
use Rattle.svr_gate.specs.Covers.{cube_clause}
use Rattle.svr_gate.proofs.row.cubes.Given as goal

abbrev pub invariant-loop-cube : goal.invariant-loop-cube
invariant-loop-cube l = record {
  items : l.clauses.items ≡ map (cube_clause l.table l.ins l.out) (take l.cube-index l.cubes);
  len : vec_len l.clauses ≡ l.cube-index;
  room : length l.cubes ≤ vec_capacity l.clauses;
}

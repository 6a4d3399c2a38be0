use Rattle.std.proofs.Common.{◌≡◌, ◌++◌, ◌+◌, ◌<◌, drop, length}
use Rattle.std.specs.Prelude.{vec_len, vec_capacity}
use Rattle.svr_gate.specs.Covers.{cube_inputs}
use Rattle.svr_gate.proofs.row.clause.Given as goal

abbrev pub invariant-loop-lit : goal.invariant-loop-lit
invariant-loop-lit l = record {
  items : l.lits.items ++ cube_inputs (drop l.lit-index l.ins) l.row l.mask ≡ cube_inputs l.ins l.cube.row l.cube.mask;
  room : vec_len l.lits + length l.ins < vec_capacity l.lits + l.lit-index;
}

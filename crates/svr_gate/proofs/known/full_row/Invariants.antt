use Rattle.std.proofs.Common.{◌≡◌, ◌<◌, ◌+◌, ◌*◌, ◌^◌, drop}
use Rattle.svr_gate.specs.Answers.{full_row}
use Rattle.svr_gate.proofs.known.full_row.Given as goal

abbrev pub invariant-loop-lit : goal.invariant-loop-lit
invariant-loop-lit l = record {
  weight : l.weight ≡ 2 ^ l.lit-index;
  below : l.full < 2 ^ l.lit-index;
  row : l.full + l.weight * full_row l.one (drop l.lit-index l.ins) l.left ≡ full_row l.one l.ins l.fn.row;
}

use Rattle.std.proofs.Common.{◌≡◌, ◌≤◌, length, take}
use Rattle.svr_gate.specs.Keys.{places_of}
use Rattle.svr_gate.specs.Answers.{open_inputs}
use Rattle.svr_gate.proofs.known.open_inputs.Given as goal

abbrev pub invariant-loop-lit : goal.invariant-loop-lit
invariant-loop-lit l = record {
  count : l.count ≡ length (open_inputs l.one (take l.lit-index l.ins));
  places : l.places ≡ places_of (open_inputs l.one (take l.lit-index l.ins));
  few : l.count ≤ l.lit-index;
}

use Rattle.std.proofs.Common.{◌≡◌, ◌++◌, sum, take, drop}
use Rattle.svr_vector.specs.Places.{rows}
use Rattle.svr_encoded.specs.Slots.{positive_bits}
use Rattle.svr_encoded.proofs.encoded.positive_rows.Given as goal

abbrev pub invariant-loop-width : goal.invariant-loop-width
invariant-loop-width l = record {
  first : l.first ≡ sum (take l.width-index l.widths);
  bits : rows l.bits.items ++ positive_bits l.first (drop l.width-index l.widths) ≡ positive_bits 0 l.widths;
}

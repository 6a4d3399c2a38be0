use Rattle.std.proofs.Common.{◌≡◌, map}
use Rattle.std.specs.Prelude.{slice_index}
use Rattle.std.specs.List.{range_with_len}
use Rattle.svr_query.specs.Logged.{valuation_of}
use Rattle.svr_frame.specs.Frame.{frame_term}
use Rattle.svr_vector.specs.Places.{rows}
use Rattle.svr_inputs.specs.Inputs.{bits_of, size_row, read_or}
use Rattle.svr_sized.proofs.read.sizes_found.Given as goal

abbrev pub invariant-loop-prop : goal.invariant-loop-prop
invariant-loop-prop l = l.sizes ≡ map (λ p. read_or (slice_index (frame_term l.frame).state.sizes p) (valuation_of l.values) (bits_of (rows l.bits) (size_row l.table p))) (range_with_len 0 l.prop)

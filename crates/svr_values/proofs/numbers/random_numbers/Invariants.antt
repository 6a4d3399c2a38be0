use Rattle.std.proofs.Common.{◌≡◌}
use Rattle.std.specs.Prelude.{filter}
use Rattle.std.specs.List.{range_with_len}
use Rattle.svr_eval.specs.Reading.{reading_of}
use Rattle.svr_frame.specs.Frame.{frame_term, is_random}
use Rattle.svr_call.specs.Call.{numbers_read}
use Rattle.svr_values.proofs.numbers.random_numbers.Given as goal

abbrev pub invariant-loop-prop : goal.invariant-loop-prop
invariant-loop-prop l = l.all ≡ numbers_read l.sizes (reading_of l.a) (filter (is_random (frame_term l.frame)) (range_with_len 0 l.prop))

use Rattle.std.proofs.Common.{◌≡◌, map}
use Rattle.std.specs.List.{range_with_len}
use Rattle.svr_eval.specs.Reading.{reading_of}
use Rattle.svr_values.proofs.numbers.row.Given as goal

abbrev pub invariant-loop-index : goal.invariant-loop-index
invariant-loop-index l = l.numbers ≡ map (λ i. (reading_of l.a).element l.prop i) (range_with_len 0 l.index)

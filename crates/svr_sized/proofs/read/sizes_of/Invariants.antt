use Rattle.std.proofs.Common.{◌≡◌, map}
use Rattle.std.specs.List.{range_with_len}
use Rattle.svr_eval.specs.Reading.{reading_of}
use Rattle.svr_sized.proofs.read.sizes_of.Given as goal

abbrev pub invariant-loop-prop : goal.invariant-loop-prop
invariant-loop-prop l = l.sizes ≡ map (reading_of l.a).size (range_with_len 0 l.prop)

use Rattle.std.proofs.Common.{◌≡◌, ◌++◌, map, reverse, length}
use Rattle.svr_elab_names.specs.Tables.{class_of}
use Rattle.svr_elab_random.specs.Random as spec
use Rattle.svr_elab_random.proofs.random.marked_backwards.Given as goal

abbrev pub invariant-loop-class : goal.invariant-loop-class
invariant-loop-class l = map class_of l.marked ++ reverse (map (spec.with_lists l.listed.keys) (map class_of l.rest)) ≡ reverse (map (spec.with_lists l.listed.keys) (map class_of l.fn.classes))

abbrev pub decreases-loop-class : goal.decreases-loop-class
decreases-loop-class l = length l.rest

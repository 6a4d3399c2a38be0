use Rattle.std.proofs.Common.{◌≡◌}
use Rattle.svr_frame_of.specs.Freeing.{mark}
use Rattle.svr_frame_of.proofs.free.marked.Given as goal

abbrev pub invariant-loop-other : goal.invariant-loop-other
invariant-loop-other l = l.marks ≡ mark l.other l.prop

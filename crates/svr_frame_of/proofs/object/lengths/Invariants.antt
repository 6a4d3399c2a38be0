use Rattle.std.proofs.Common.{◌≡◌, map, length, take}
use Rattle.svr_frame_of.proofs.object.lengths.Given as goal

abbrev pub invariant-loop-list : goal.invariant-loop-list
invariant-loop-list l = l.sizes ≡ map length (take l.list-index l.lists)

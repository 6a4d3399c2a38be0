use Rattle.std.proofs.Common.{take}
use Rattle.std.specs.List.{AllZip}
use Rattle.svr_frame.specs.Frame.{frame_term}
use Rattle.svr_conflict.specs.Read.{IsRead}
use Rattle.svr_conflict.proofs.found.members_of.Given as goal

abbrev pub invariant-loop-needed : goal.invariant-loop-needed
invariant-loop-needed l = AllZip (IsRead (frame_term l.frame) l.sizes l.encoding) (take l.needed-index l.core) l.members.items

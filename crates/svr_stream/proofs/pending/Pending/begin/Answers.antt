use Rattle.svr_stream.proofs.Putting.{held}
use Rattle.svr_stream.proofs.pending.Pending.begin.Goals as goal

pub returns-then-piece-le-ROOM : goal.returns-then-piece-le-ROOM
returns-then-piece-le-ROOM g c = held _ _ _ _ _ c.hold.ensures

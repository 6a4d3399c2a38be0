use Rattle.svr_stream.proofs.Putting.{held, puts_then}
use Rattle.svr_stream.proofs.pending.Pending.put.Goals as goal

pub returns-then-piece-room : goal.returns-then-piece-room
returns-then-piece-room g c = held _ _ _ _ _ c.hold.ensures

pub returns-else-piece-room : goal.returns-else-piece-room
returns-else-piece-room g c = puts_then c.flush.ensures.puts c.begin.ensures

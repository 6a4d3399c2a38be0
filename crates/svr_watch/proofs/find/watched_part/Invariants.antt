use Rattle.std.proofs.Common.{take}
use Rattle.std.specs.List.{All}
use Rattle.svr_watch.specs.Store.{IsPassedBy}
use Rattle.svr_watch.proofs.find.watched_part.Given as goal

abbrev pub invariant-loop-lit : goal.invariant-loop-lit
invariant-loop-lit l = All (IsPassedBy l.arena l.lits) (take l.lit-index l.lits)

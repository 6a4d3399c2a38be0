use Rattle.std.proofs.Common.{take}
use Rattle.std.specs.List.{All}
use Rattle.svr_watch.specs.Store.{IsNoPart}
use Rattle.svr_watch.proofs.find.apart_part.Given as goal

abbrev pub invariant-loop-place : goal.invariant-loop-place
invariant-loop-place l = All (IsNoPart l.clauses l.lits) (take l.place-index l.places)

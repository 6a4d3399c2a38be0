use Rattle.svr_arena.specs.Layout.{watched}
use Rattle.svr_arena.proofs.Detach.{left}
use Rattle.svr_watch.proofs.Parts.{Passed}
use Rattle.svr_watch.proofs.find.part_on.Given as goal

abbrev pub invariant-list : goal.invariant-list
invariant-list l = Passed l.arena l.code l.lits l.at

abbrev pub decreases-list : goal.decreases-list
decreases-list l = left (watched l.arena l.code) l.at

use Rattle.std.proofs.Common.{◌≡◌, map, take}
use Rattle.svr_soft.specs.Kept.{lit_at}
use Rattle.svr_question.proofs.fates.literals_of.Given as goal

abbrev pub invariant-loop-rank : goal.invariant-loop-rank
invariant-loop-rank l = l.literals.items ≡ map (lit_at l.soft) (take l.rank-index l.kept)

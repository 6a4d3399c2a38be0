use Rattle.std.proofs.Common.{◌≡◌, take}
use Rattle.svr_vector.specs.Places.{rows}
use Rattle.svr_question.specs.Passed.{lits_at}
use Rattle.svr_question.proofs.fixed.spell_all.Given as goal

abbrev pub invariant-loop-choice : goal.invariant-loop-choice
invariant-loop-choice l = l.literals.items ≡ lits_at (rows l.bits) l.table (take l.choice-index l.chosen)

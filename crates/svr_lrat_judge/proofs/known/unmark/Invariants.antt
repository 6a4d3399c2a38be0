use Rattle.std.proofs.Common.{drop}
use Rattle.svr_lrat_judge.specs.Marks.{MarkedAmong}
use Rattle.svr_lrat_judge.proofs.known.unmark.Given as goal

abbrev pub invariant-loop-lit : goal.invariant-loop-lit
invariant-loop-lit l = MarkedAmong l.marks.items (drop l.lit-index l.lits)

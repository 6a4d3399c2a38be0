use Rattle.std.proofs.Common.{sym, subst, arith}
use Rattle.svr_lrat_judge.specs.Marks.{MarkedAmong}
use Rattle.svr_lrat_judge.proofs.MarkLemmas.{unmarked-one, unmarked-past}
use Rattle.svr_lrat_judge.proofs.known.unmark_one.Goals as goal

pub returns-then-not-within : goal.returns-then-not-within
returns-then-not-within c = λ rest m. unmarked-past c.args.marks.now.items c.args.lit rest (omega arith) m

pub returns : goal.returns
returns c = λ rest m. subst (λ z. MarkedAmong z rest) (sym c.set_mark.ensures) (unmarked-one c.args.marks.now.items c.args.lit rest (omega arith) m)

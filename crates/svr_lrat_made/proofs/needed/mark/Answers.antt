use Rattle.std.proofs.Common.{arith}
use Rattle.svr_lrat_made.proofs.Marking.{mark_low, mark_high, mark_set}
use Rattle.svr_lrat_made.proofs.needed.mark.Goals as goal

pub returns-then-number-first-clause-marked : goal.returns-then-number-first-clause-marked
returns-then-number-first-clause-marked c = λ k. mark_low c.args.marks.now.items c.args.limit c.args.first c.args.number (omega arith) k

pub returns-then-place-limit-clause-marked : goal.returns-then-place-limit-clause-marked
returns-then-place-limit-clause-marked c = λ k. mark_high c.args.marks.now.items c.args.limit c.args.first c.args.number (omega arith) (omega arith) k

pub returns-clause-marked : goal.returns-clause-marked
returns-clause-marked c = λ k. mark_set c.args.marks.now.items c.args.limit c.args.first c.args.number (omega arith) (omega arith) (omega arith) k

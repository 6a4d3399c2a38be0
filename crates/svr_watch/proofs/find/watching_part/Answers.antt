use Rattle.std.proofs.Common.{arith}
use Rattle.svr_watch.proofs.Parts.{none-then, passed-by}
use Rattle.svr_watch.proofs.find.watching_part.Goals as goal

pub part_on-requires : goal.part_on-requires
part_on-requires c = let n = c.in-Some.ensures.some.1 in omega (arith, n, c.codes.ensures.codes)

pub returns-in-Some-clause-none : goal.returns-in-Some-clause-none
returns-in-Some-clause-none c = none-then c.part_on.result (passed-by c.args.arena.now c.args.lits.now c.args.lit c.in-Some.code c.in-Some.ensures.some.0) c.part_on.ensures.none

pub returns-in-None-clause-none : goal.returns-in-None-clause-none
returns-in-None-clause-none c = λ b. absurd (c.in-None.ensures.none (let n = c.codes.ensures.codes in omega (arith, n, b)))

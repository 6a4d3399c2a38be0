use Rattle.std.proofs.Common.{sym, ◌∙◌}
use Rattle.svr_lrat_text.proofs.Taking.{took-problem, problem-stops}
use Rattle.svr_lrat_text.proofs.reader.take_problem.Goals as goal

pub returns-then-is_problem : goal.returns-then-is_problem
returns-then-is_problem c = took-problem c.args.cursor.now c.next-token.new.self c.next-token.result c.next-token.ensures (sym c.is_problem.ensures ∙ c.if-is_problem.true)

pub returns-else-is_problem : goal.returns-else-is_problem
returns-else-is_problem c = rw c.bad.ensures (problem-stops c.args.cursor.now c.next-token.new.self c.next-token.result c.next-token.ensures (sym c.is_problem.ensures ∙ c.if-is_problem.false))

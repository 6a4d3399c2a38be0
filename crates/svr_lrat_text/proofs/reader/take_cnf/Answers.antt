use Rattle.std.proofs.Common.{sym, ◌∙◌}
use Rattle.svr_lrat_text.proofs.Taking.{took-cnf, cnf-stops}
use Rattle.svr_lrat_text.proofs.reader.take_cnf.Goals as goal

pub returns-then-is_cnf : goal.returns-then-is_cnf
returns-then-is_cnf c = took-cnf c.args.cursor.now c.next-token.new.self c.next-token.result c.next-token.ensures (sym c.is_cnf.ensures ∙ c.if-is_cnf.true)

pub returns-else-is_cnf : goal.returns-else-is_cnf
returns-else-is_cnf c = rw c.bad.ensures (cnf-stops c.args.cursor.now c.next-token.new.self c.next-token.result c.next-token.ensures (sym c.is_cnf.ensures ∙ c.if-is_cnf.false))

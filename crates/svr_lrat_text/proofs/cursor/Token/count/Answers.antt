use Rattle.std.proofs.Common.{sym}
use Rattle.svr_lrat_text.proofs.Numerals.{count-none, count-some}
use Rattle.svr_lrat_text.proofs.cursor.Token.count.Goals as goal

pub returns-in-None : goal.returns-in-None
returns-in-None c = rw c.bad.ensures (count-none c.args.self (sym c.in-None.ensures))

pub returns-in-Some : goal.returns-in-Some
returns-in-Some c = count-some c.args.self c.in-Some.number c.small_count.result (sym c.in-Some.ensures) c.small_count.ensures

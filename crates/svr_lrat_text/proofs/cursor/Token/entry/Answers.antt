use Rattle.std.proofs.Common.{sym}
use Rattle.svr_lrat_text.proofs.Numerals.{entry-none, entry-some-in}
use Rattle.svr_lrat_text.proofs.cursor.Token.entry.Goals as goal

pub returns-in-None : goal.returns-in-None
returns-in-None c = rw c.bad.ensures (entry-none c.args.most c.args.signed c.args.self (sym c.in-None.ensures))

pub returns-in-Some : goal.returns-in-Some
returns-in-Some c = entry-some-in c.args.most c.args.signed c.args.self c.in-Some.number c.small_entry.result (sym c.in-Some.ensures) c.small_entry.ensures

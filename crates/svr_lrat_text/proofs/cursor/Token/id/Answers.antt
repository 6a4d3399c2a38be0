use Rattle.svr_lrat_text.proofs.Numerals.{id-some, id-zero, id-fault}
use Rattle.svr_lrat_text.proofs.cursor.Token.id.Goals as goal

pub returns-in-Ok-Some : goal.returns-in-Ok-Some
returns-in-Ok-Some c = id-some c.args.self c.in-Ok-Some.number (rw c.in-Ok-Some.field-0-is at c.in-Ok-Some.ensures)

pub returns-in-Ok-None : goal.returns-in-Ok-None
returns-in-Ok-None c = rw c.bad.ensures (id-zero c.args.self (rw c.in-Ok-None.field-0-is at c.in-Ok-None.ensures))

pub returns-in-Err : goal.returns-in-Err
returns-in-Err c = id-fault c.args.self c.in-Err.fault c.in-Err.ensures

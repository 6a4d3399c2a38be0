use Rattle.std.proofs.Common.{◌≡◌, ◌∙◌, ap, arith}
use Rattle.svr_reader.specs.Calls.{cap}
use Rattle.svr_reader.proofs.Turns.{deeper}
use Rattle.svr_expr.proofs.Deep.{no_room_is}
use Rattle.svr_stmt.specs.StmtRules.{stmt, stmt_starts}
use Rattle.svr_stmt.proofs.statement.+stmt.Goals as goal

pub returns-clause-gives : goal.returns-clause-gives
unfolding stmt
returns-clause-gives t c = rw (deeper (λ n. stmt cap n c.args.cursor.now) c.args.room (omega arith)) c.stmt_in.ensures.gives

pub returns-then-room-eq0-clause-gives : goal.returns-then-room-eq0-clause-gives
unfolding stmt
returns-then-room-eq0-clause-gives t c _ =
    let none : c.args.room ≡ 0 = omega arith in
    ap (λ n. stmt cap n c.args.cursor.now) none ∙ no_room_is stmt_starts c.args.cursor.now _ c.no_stmt.ensures

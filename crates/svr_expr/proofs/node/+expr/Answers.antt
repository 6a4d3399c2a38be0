use Rattle.std.proofs.Common.{◌≡◌, ◌∙◌, ap, arith}
use Rattle.svr_reader.specs.Calls.{cap}
use Rattle.svr_expr.specs.ExprRules.{node, an_expr, expr_starts}
use Rattle.svr_expr.proofs.Deep.{deeper, no_room_is}
use Rattle.svr_expr.proofs.node.+expr.Goals as goal

pub returns-clause-gives : goal.returns-clause-gives
unfolding node
returns-clause-gives t c = rw (deeper (λ n. node cap n (an_expr c.args.least) c.args.cursor.now) c.args.room (omega arith)) c.expr_in.ensures.gives

pub returns-then-room-eq0-clause-gives : goal.returns-then-room-eq0-clause-gives
unfolding node
returns-then-room-eq0-clause-gives t c _ =
    let none : c.args.room ≡ 0 = omega arith in
    ap (λ n. node cap n (an_expr c.args.least) c.args.cursor.now) none ∙ no_room_is expr_starts c.args.cursor.now _ c.no_expr.ensures

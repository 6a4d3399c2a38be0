use Rattle.std.proofs.Common.{◌≡◌, ◌∙◌, ap, arith}
use Rattle.svr_reader.specs.Calls.{cap}
use Rattle.svr_expr.specs.ExprRules.{node, a_member, path_starts}
use Rattle.svr_expr.proofs.Deep.{deeper, no_room_is}
use Rattle.svr_expr.proofs.node.member.Goals as goal

pub returns-clause-gives : goal.returns-clause-gives
unfolding node
returns-clause-gives c = rw (deeper (λ n. node cap n a_member c.args.cursor.now) c.args.room (omega arith)) c.member_in.ensures.gives

pub returns-then-room-eq0-clause-gives : goal.returns-then-room-eq0-clause-gives
unfolding node
returns-then-room-eq0-clause-gives c _ =
    let none : c.args.room ≡ 0 = omega arith in
    ap (λ n. node cap n a_member c.args.cursor.now) none ∙ no_room_is path_starts c.args.cursor.now _ c.no_path.ensures

use Rattle.std.proofs.Common.{◌≡◌, ◌∙◌, ap, arith, ◌-◌}
use Rattle.svr_reader.specs.Calls.{cap}
use Rattle.svr_expr.specs.ExprRules.{a_known_path, path_starts, expr}
use Rattle.svr_expr.proofs.Anywhere.{known_path_same}
use Rattle.svr_expr.proofs.Deep.{deeper, no_room_is}
use Rattle.svr_expr.proofs.names.known_path.Goals as goal

pub returns : goal.returns
unfolding a_known_path
returns c =
    rw (deeper (λ n. a_known_path cap n c.args.cursor.now) c.args.room (omega arith))
    (rw (known_path_same (c.args.room - 1) (expr cap (c.args.room - 1)) c.args.cursor.now) c.any_path.ensures)

pub returns-then-room-eq0 : goal.returns-then-room-eq0
unfolding a_known_path
returns-then-room-eq0 c _ =
    let none : c.args.room ≡ 0 = omega arith in
    ap (λ n. a_known_path cap n c.args.cursor.now) none ∙ no_room_is path_starts c.args.cursor.now _ c.no_path.ensures

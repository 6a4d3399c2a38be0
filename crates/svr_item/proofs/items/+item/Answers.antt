use Rattle.std.proofs.Common.{◌≡◌, ◌∙◌, ap, arith}
use Rattle.svr_reader.specs.Calls.{cap}
use Rattle.svr_expr.proofs.Deep.{deeper, no_room_is}
use Rattle.svr_item.specs.ItemRules.{item, item_starts}
use Rattle.svr_item.proofs.items.+item.Goals as goal

pub returns-clause-gives : goal.returns-clause-gives
unfolding item
returns-clause-gives t c = rw (deeper (λ n. item cap n c.args.cursor.now) c.args.room (omega arith)) c.item_in.ensures.gives

pub returns-then-room-eq0-clause-gives : goal.returns-then-room-eq0-clause-gives
unfolding item
returns-then-room-eq0-clause-gives t c _ =
    let none : c.args.room ≡ 0 = omega arith in
    ap (λ n. item cap n c.args.cursor.now) none ∙ no_room_is item_starts c.args.cursor.now _ c.no_item.ensures

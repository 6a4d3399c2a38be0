use Rattle.std.proofs.Common.{◌≡◌, ◌∙◌, ap, arith}
use Rattle.svr_reader.specs.Calls.{cap}
use Rattle.svr_expr.proofs.Deep.{deeper, no_room_is}
use Rattle.svr_item.specs.ItemRules.{block_item, block_starts}
use Rattle.svr_item.proofs.block.block_item.Goals as goal

pub returns-clause-gives : goal.returns-clause-gives
unfolding block_item
returns-clause-gives c = rw (deeper (λ n. block_item cap n c.args.cursor.now) c.args.room (omega arith)) c.block_item_in.ensures.gives

pub returns-then-room-eq0-clause-gives : goal.returns-then-room-eq0-clause-gives
unfolding block_item
returns-then-room-eq0-clause-gives c _ =
    let none : c.args.room ≡ 0 = omega arith in
    ap (λ n. block_item cap n c.args.cursor.now) none ∙ no_room_is block_starts c.args.cursor.now _ c.no_block_item.ensures

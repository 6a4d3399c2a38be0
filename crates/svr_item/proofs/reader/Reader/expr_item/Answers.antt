use Rattle.svr_reader.specs.Calls.{cap}
use Rattle.svr_item.proofs.Local.{some_room}
use Rattle.svr_item.proofs.reader.Reader.expr_item.Goals as goal

pub expr_item_on-requires-clause-some : goal.expr_item_on-requires-clause-some
expr_item_on-requires-clause-some g c = some_room cap c.args.self.now.room _ c.args.cursor.now _ _ c.in_ok-first.ensures.gives

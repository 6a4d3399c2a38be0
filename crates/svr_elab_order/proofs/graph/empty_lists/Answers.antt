use Rattle.std.proofs.Common.{[]}
use Rattle.svr_elab_order.proofs.Empties.{one_more}
use Rattle.svr_elab_order.proofs.graph.empty_lists.Goals as goal

pub loop-list-preserved : goal.loop-list-preserved
loop-list-preserved c = one_more c.push.result c.is_err.result c.loop-list.lists.items c.push.new.self.items c.new.result [] c.loop-list._list c.is_err.ensures.value c.if-is_err.false c.push.ensures.items c.new.ensures c.loop-list.invariant

use Rattle.std.proofs.Common.{arith}
use Rattle.svr_core.proofs.Gathered.{group_put, groups_put}
use Rattle.svr_core.proofs.search.put_groups.Goals as goal

pub loop-group-preserved : goal.loop-group-preserved
loop-group-preserved c =
    group_put c.args.groups.now c.loop-group.group-index c.group-item.result c.loop-group.lits.items _ c.as_slice.result.now _ (omega arith) c.group-item.is c.as_slice.ensures c.in_ok-extend_from_slice.ensures.items
    c.loop-group.invariant

pub returns : goal.returns
returns c = groups_put c.args.groups.now c.loop-group.group-index c.loop-group.lits.items _ (omega arith) c.loop-group.invariant

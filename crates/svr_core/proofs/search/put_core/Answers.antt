use Rattle.std.proofs.Common.{arith}
use Rattle.svr_core.proofs.Gathered.{place_put, places_put}
use Rattle.svr_core.proofs.search.put_core.Goals as goal

pub loop-needed-preserved : goal.loop-needed-preserved
loop-needed-preserved c =
    place_put c.args.groups.now c.args.core.now c.loop-needed.needed-index c.needed-item.result c.loop-needed.lits.items _ c.group_at.result.now _ (omega arith) c.needed-item.is c.group_at.ensures
    c.in_ok-extend_from_slice.ensures.items c.loop-needed.invariant

pub returns : goal.returns
returns c = places_put c.args.groups.now c.args.core.now c.loop-needed.needed-index c.loop-needed.lits.items _ (omega arith) c.loop-needed.invariant

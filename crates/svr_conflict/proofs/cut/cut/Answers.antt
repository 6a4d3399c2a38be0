use Rattle.std.proofs.Common.{◌∙◌, arith}
use Rattle.svr_conflict.proofs.Cuts.{cut_put, cuts_put}
use Rattle.svr_conflict.proofs.cut.cut.Goals as goal

pub loop-count-preserved : goal.loop-count-preserved
loop-count-preserved c =
    cut_put c.args.counts.now c.loop-count.count-index _ _ c.in_ok-group.group c.loop-count.groups.items _ _ (omega arith) (c.in_ok-group.ensures ∙ c.front.ensures) c.behind-left.ensures c.in_ok-push.ensures.items
    c.loop-count.invariant

pub returns : goal.returns
returns c = cuts_put c.args.counts.now c.loop-count.count-index _ c.loop-count.groups.items _ (omega arith) c.loop-count.invariant

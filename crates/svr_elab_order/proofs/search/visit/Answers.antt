use Rattle.std.proofs.Common.{true, sym, ◌∙◌, ap, get_or}
use Rattle.svr_elab_order.proofs.Seen.{sooner}
use Rattle.svr_elab_order.proofs.search.visit.Goals as goal

pub loop-step-smaller-in-Continue-branch-3 : goal.loop-step-smaller-in-Continue-branch-3
loop-step-smaller-in-Continue-branch-3 c =
    let node = c.in-Some-next_unseen.next.node in
    sooner c.loop-step.seen.items c.mark.new.flags.items node c.loop-step.way c.pop.new.self c.push-in-Some-next_unseen.new.self c.push-in-Some-next_unseen-2.new.self _ _ _
    c.mark.ensures (ap (λ flags. get_or flags node true) (sym c.as_slice.ensures.value) ∙ c.in-Some-next_unseen.ensures)
    c.in-Some.ensures c.in_ok-push-in-Some-next_unseen.ensures.ok c.in_ok-push-in-Some-next_unseen-2.ensures.ok

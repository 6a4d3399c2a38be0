use Rattle.std.proofs.Common.{◌<◌, [], length, map, get_or, sym, ap, subst, ◌∙◌}
use Rattle.svr_chain.proofs.ListsLemmas.{items_of, nil-push, some-push}
use Rattle.svr_chain.proofs.lists.Lists.new.Goals as goal

pub loop-preserved : goal.loop-preserved
loop-preserved c =
    let vs = c.loop.lists.items in
    let v = c.new-in-loop.result in
    let p = c.in_ok-push-2.ensures.items in (
      subst (λ z. 0 < length z) (sym p) (some-push vs v),
      λ n. ap (λ z. get_or (map items_of z) n []) p ∙ nil-push vs v c.loop.invariant.1 c.new-in-loop.ensures.items n,
    )

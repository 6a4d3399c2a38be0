use Rattle.std.proofs.Common.{◌≡◌, [], ◌∷◌, ◌++◌, map, reverse, ap, ◌∙◌}
use Rattle.std.proofs.lemmas.List.{reverse-reverse}
use Rattle.std.specs.Rc.{rc_slice_items}
use Rattle.svr_call.specs.declared.outcome.Dropped.{Dropped}
use Rattle.svr_question.specs.Passed.{dropped_at}
use Rattle.svr_question.proofs.Ranks.{mapped_turn}
use Rattle.svr_question.proofs.fates.dropped_by.Goals as goal

pub loop-one-init : goal.loop-one-init
loop-one-init c =
    let g = dropped_at c.args.place (rc_slice_items c.args.common.base.now) c.args.soft.now c.args.kept.now in
    let back : reverse c.from_vec-left.result ≡ c.args.dropped.items = ap reverse (c.from_vec-left.ensures ∙ c.reverse.ensures.items) ∙ reverse-reverse c.args.dropped.items in
    (λ i. c.new-proved.ensures i ++ map g (back i))

pub loop-one-preserved : goal.loop-one-preserved
loop-one-preserved c =
    let g = dropped_at c.args.place (rc_slice_items c.args.common.base.now) c.args.soft.now c.args.kept.now in
    mapped_turn g c.loop-one.left c.pop.new.self c.loop-one.proved _ _ c.in-Some.one c.in-Some.ensures
    (c.in_ok-push.ensures.ok ∙ ap (λ (d : Dropped). c.loop-one.proved ++ d ∷ []) c.in_ok-dropped_one.ensures) c.loop-one.invariant

use Rattle.std.proofs.Common.{false, refl, ◌∙◌}
use Rattle.svr_typed.specs.ExprTerm.{expr_term}
use Rattle.svr_frame.specs.Frame.{frame_term}
use Rattle.svr_weight.specs.Costs.{pair_cost}
use Rattle.svr_weight.specs.Weighing.{joined, mentioned_by}
use Rattle.svr_weight.proofs.Caps.{leaf_from}
use Rattle.svr_weight.proofs.unique.pair_weight.Goals as goal

pub returns : goal.returns
returns c =
    let f = frame_term c.args.frame.now in
    let part = c.args.part in
    let x = expr_term c.args.x.now in
    let y = expr_term c.args.y.now in
    leaf_from part c.args.around false _ (joined (mentioned_by f part x) (mentioned_by f part y)) _ (pair_cost f part c.args.sizes.now x y) 1 1 _ c.leaf_weight.ensures
    (c.joined-both.ensures ∙ (λ k. joined (c.mentioned_by.ensures k) (c.mentioned_by-2.ensures k))) c.pair_cost.ensures refl

use Rattle.std.proofs.Common.{◌∙◌}
use Rattle.svr_frame.specs.Frame.{frame_term}
use Rattle.svr_weight.proofs.Domains.{property_added}
use Rattle.svr_weight.proofs.phase.weight.Goals as goal

pub loop-prop-preserved : goal.loop-prop-preserved
loop-prop-preserved c =
    property_added (frame_term c.args.frame.now) c.args.part c.args.sizes.now c.loop-prop.prop c.loop-prop.sum _ _ _ _ _ _ c.add-sum.ensures c.add-own.ensures c.saturating_mul-domains.ensures
    (c.from-count.ensures ∙ c.number_count.ensures) c.domain_weight.ensures c.bounds_weight.ensures c.loop-prop.invariant

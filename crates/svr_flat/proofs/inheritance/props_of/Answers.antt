use Rattle.svr_flat.proofs.Stacked.{props_step}
use Rattle.svr_flat.proofs.inheritance.props_of.Goals as goal

pub loop-class-preserved : goal.loop-class-preserved
loop-class-preserved c = props_step _ _ _ c.in-Some.class _ _ _ c.in-Some.ensures.items c.in_ok-props.ensures c.loop-class.invariant

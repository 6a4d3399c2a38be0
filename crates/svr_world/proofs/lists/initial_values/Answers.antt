use Rattle.svr_world.specs.World.{initial_numbers}
use Rattle.svr_world.proofs.Made.{one_more}
use Rattle.svr_world.proofs.lists.initial_values.Goals as goal

pub loop-prop-preserved : goal.loop-prop-preserved
loop-prop-preserved c =
    one_more (λ p. initial_numbers p.array p.first) c.args.props.now c.loop-prop.values.items _ c.loop-prop.prop-index c.prop-item.result c.in_ok-numbers.numbers c.loop-prop-test.true
    c.prop-item.is c.in_ok-push.ensures c.loop-prop.invariant c.in_ok-numbers.ensures

use Rattle.std.proofs.Common.{[]}
use Rattle.svr_world.proofs.Made.{one_more}
use Rattle.svr_world.proofs.lists.nothing_used.Goals as goal

pub loop-prop-preserved : goal.loop-prop-preserved
loop-prop-preserved c =
    one_more (λ p. []) c.args.props.now c.loop-prop.used.items _ c.loop-prop.prop-index c.prop-item.result c.new.result c.loop-prop-test.true
    c.prop-item.is c.in_ok-push.ensures c.loop-prop.invariant c.new.ensures

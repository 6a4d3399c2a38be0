use Rattle.std.proofs.Common.{None, refl}
use Rattle.svr_world.proofs.Made.{one_more}
use Rattle.svr_world.proofs.world.no_objects.Goals as goal

pub loop-var-preserved : goal.loop-var-preserved
loop-var-preserved c =
    one_more (λ v. None) c.args.vars.now c.loop-var.objects.items _ c.loop-var.var-index c.var-item.result None c.loop-var-test.true
    c.var-item.is c.in_ok-push.ensures c.loop-var.invariant refl

use Rattle.std.proofs.Common.{◌≡◌, ◌∙◌, ap, sym}
use Rattle.svr_world.specs.World.{kind_class}
use Rattle.svr_world.proofs.Made.{one_more}
use Rattle.svr_world.proofs.world.declared_classes.Goals as goal
use Rattle.svr_world.proofs.world.declared_classes.Goals.{in-Number, in-Object}

pub loop-var-preserved : goal.loop-var-preserved
loop-var-preserved c =
    let class : c.match-var.class ≡ kind_class c.var-item.result.kind = elim c.match-var.branch [
      | in-Number w ↦ w.class-is ∙ ap kind_class (sym w.in-Number.is)
      | in-Object w ↦ w.class-is ∙ ap kind_class (sym w.in-Object.is)
    ] in
    one_more (λ v. kind_class v.kind) c.args.vars.now c.loop-var.classes.items _ c.loop-var.var-index c.var-item.result c.match-var.class c.loop-var-test.true
    c.var-item.is c.in_ok-push.ensures c.loop-var.invariant class

use Rattle.std.proofs.Common.{sym, ◌∙◌}
use Rattle.svr_frame.specs.declared.slot.Slot.TheVariants.{Scalar}
use Rattle.svr_frame.specs.Frame.{frame_term, is_cyclic}
use Rattle.svr_expand.proofs.Kept.{mapped_kept, mapped_left}
use Rattle.svr_expand.proofs.slots.add_cyclic.Goals as goal
use Rattle.svr_expand.proofs.slots.add_cyclic.Goals.{then-is_cyclic+in_ok-push, else-is_cyclic}

pub loop-prop-preserved : goal.loop-prop-preserved
loop-prop-preserved c =
    let f = frame_term c.args.frame.now in
    elim c.if-is_cyclic.branch [
      | then-is_cyclic+in_ok-push w ↦
          mapped_kept Scalar (is_cyclic f) c.loop-prop.prop c.args.out.now c.loop-prop.out c.if-is_cyclic.out (sym c.is_cyclic.ensures ∙ w.if-is_cyclic.true) c.loop-prop.invariant (w.out-is ∙ w.in_ok-push.ensures.ok)
      | else-is_cyclic w ↦
          w.out-is ∙ mapped_left Scalar (is_cyclic f) c.loop-prop.prop c.args.out.now c.loop-prop.out (sym c.is_cyclic.ensures ∙ w.if-is_cyclic.false) c.loop-prop.invariant
    ]

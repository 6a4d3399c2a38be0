use Rattle.std.specs.Prelude.{not}
use Rattle.std.proofs.Common.{sym, ◌∙◌, ◌&&◌}
use Rattle.svr_frame.specs.declared.slot.Slot.TheVariants.{Scalar}
use Rattle.svr_frame.specs.Frame.{frame_term, is_random, is_array, is_cyclic}
use Rattle.svr_expand.proofs.Kept.{mapped_kept, mapped_left}
use Rattle.svr_expand.proofs.slots.add_scalars.Goals as goal
use Rattle.svr_expand.proofs.slots.add_scalars.Goals.{then-is_free_scalar+in_ok-push, else-is_free_scalar}

pub loop-prop-preserved : goal.loop-prop-preserved
loop-prop-preserved c =
    let f = frame_term c.args.frame.now in
    elim c.if-is_free_scalar.branch [
      | then-is_free_scalar+in_ok-push w ↦
          mapped_kept Scalar (λ p. is_random f p && not (is_array f p) && not (is_cyclic f p)) c.loop-prop.prop c.args.out.now c.loop-prop.out c.if-is_free_scalar.out (sym c.is_free_scalar.ensures ∙ w.if-is_free_scalar.true) c.loop-prop.invariant (w.out-is ∙ w.in_ok-push.ensures.ok)
      | else-is_free_scalar w ↦
          w.out-is ∙ mapped_left Scalar (λ p. is_random f p && not (is_array f p) && not (is_cyclic f p)) c.loop-prop.prop c.args.out.now c.loop-prop.out (sym c.is_free_scalar.ensures ∙ w.if-is_free_scalar.false) c.loop-prop.invariant
    ]

use Rattle.std.proofs.Common.{sym, ◌∙◌}
use Rattle.svr_frame.specs.declared.slot.Slot.TheVariants.{Size}
use Rattle.svr_frame.specs.Frame.{frame_term, has_free_size}
use Rattle.svr_expand.proofs.Kept.{mapped_kept, mapped_left}
use Rattle.svr_expand.proofs.slots.add_sizes.Goals as goal
use Rattle.svr_expand.proofs.slots.add_sizes.Goals.{then-has_free_size+in_ok-push, else-has_free_size}

pub loop-prop-preserved : goal.loop-prop-preserved
loop-prop-preserved c =
    let f = frame_term c.args.frame.now in
    elim c.if-has_free_size.branch [
      | then-has_free_size+in_ok-push w ↦
          mapped_kept Size (has_free_size f) c.loop-prop.prop c.args.out.now c.loop-prop.out c.if-has_free_size.out (sym c.has_free_size.ensures ∙ w.if-has_free_size.true) c.loop-prop.invariant (w.out-is ∙ w.in_ok-push.ensures.ok)
      | else-has_free_size w ↦
          w.out-is ∙ mapped_left Size (has_free_size f) c.loop-prop.prop c.args.out.now c.loop-prop.out (sym c.has_free_size.ensures ∙ w.if-has_free_size.false) c.loop-prop.invariant
    ]

use Rattle.std.proofs.Common.{◌∷◌, ◌++◌, [], ℕ, List, sym, ap, ◌∙◌}
use Rattle.svr_frame.specs.Frame.{frame_term, is_cyclic}
use Rattle.svr_cyclic.proofs.Lists.{kept_more, left_more}
use Rattle.svr_cyclic.proofs.choose.cyclic_props.Goals as goal
use Rattle.svr_cyclic.proofs.choose.cyclic_props.Goals.{then-is_cyclic+in_ok-push, else-is_cyclic}

pub loop-prop-preserved : goal.loop-prop-preserved
loop-prop-preserved c =
    let p = c.loop-prop.prop in
    let t = is_cyclic (frame_term c.args.frame.now) in
    elim c.if-is_cyclic.branch [
      | then-is_cyclic+in_ok-push w ↦
          w.props-is ∙ w.in_ok-push.ensures.ok ∙ ap (λ (ps : List ℕ). ps ++ p ∷ []) c.loop-prop.invariant ∙ sym (kept_more t p (sym c.is_cyclic.ensures ∙ w.if-is_cyclic.true))
      | else-is_cyclic w ↦
          w.props-is ∙ c.loop-prop.invariant ∙ sym (left_more t p (sym c.is_cyclic.ensures ∙ w.if-is_cyclic.false))
    ]

use Rattle.std.proofs.Common.{◌++◌, sym, ◌∙◌, ap, map}
use Rattle.std.specs.Prelude.{slice_index}
use Rattle.std.specs.List.{range_with_len}
use Rattle.svr_frame.specs.declared.slot.Slot.TheVariants.{Element}
use Rattle.svr_frame.specs.Frame.{frame_term}
use Rattle.svr_frame.specs.Phases.{is_random_array}
use Rattle.svr_expand.proofs.Kept.{joined_kept, joined_left}
use Rattle.svr_expand.proofs.slots.add_elements.Goals as goal
use Rattle.svr_expand.proofs.slots.add_elements.Goals.{then-is_random_array+in_ok-add_elements_of, else-is_random_array}

pub loop-prop-preserved : goal.loop-prop-preserved
loop-prop-preserved c =
    let f = frame_term c.args.frame.now in
    let p = c.loop-prop.prop in
    elim c.if-is_random_array.branch [
      | then-is_random_array+in_ok-add_elements_of w ↦
          joined_kept (λ q. map (Element q) (range_with_len 0 (slice_index c.args.sizes.now q))) (is_random_array f) p c.args.out.now c.loop-prop.out c.if-is_random_array.out (sym c.is_random_array.ensures ∙ w.if-is_random_array.true) c.loop-prop.invariant
          (w.out-is ∙ w.in_ok-add_elements_of.ensures ∙ ap (λ n. c.loop-prop.out ++ map (Element p) (range_with_len 0 n)) w.size_at.ensures)
      | else-is_random_array w ↦
          w.out-is
          ∙ joined_left (λ q. map (Element q) (range_with_len 0 (slice_index c.args.sizes.now q))) (is_random_array f) p c.args.out.now c.loop-prop.out (sym c.is_random_array.ensures ∙ w.if-is_random_array.false) c.loop-prop.invariant
    ]

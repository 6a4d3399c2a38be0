use Rattle.std.proofs.Common.{sym, ◌∙◌}
use Rattle.svr_eval.specs.Reading.{reading_of}
use Rattle.svr_frame.specs.Frame.{frame_term, is_random}
use Rattle.svr_values.proofs.Lists.{rows_taken, rows_left}
use Rattle.svr_values.proofs.numbers.random_numbers.Goals as goal
use Rattle.svr_values.proofs.numbers.random_numbers.Goals.{then-is_random+in_ok-push_row, else-is_random}

pub loop-prop-preserved : goal.loop-prop-preserved
loop-prop-preserved c =
    let f = frame_term c.args.frame.now in
    elim c.if-is_random.branch [
      | then-is_random+in_ok-push_row w ↦
          rows_taken c.args.sizes.now (reading_of c.args.a.now) (is_random f) c.loop-prop.prop c.loop-prop.all c.if-is_random.all (sym c.is_random.ensures ∙ w.if-is_random.true) c.loop-prop.invariant (w.all-is ∙ w.in_ok-push_row.ensures)
      | else-is_random w ↦
          w.all-is ∙ rows_left c.args.sizes.now (reading_of c.args.a.now) (is_random f) c.loop-prop.prop c.loop-prop.all (sym c.is_random.ensures ∙ w.if-is_random.false) c.loop-prop.invariant
    ]

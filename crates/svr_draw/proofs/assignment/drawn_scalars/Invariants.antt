use Rattle.std.proofs.Common.{◌≡◌}
use Rattle.svr_eval.specs.Reading.{reading_of}
use Rattle.svr_frame.specs.Frame.{frame_term}
use Rattle.svr_draw.specs.Words.{after}
use Rattle.svr_draw.specs.Drawing as spec
use Rattle.svr_draw.proofs.assignment.drawn_scalars.Given as goal

abbrev pub invariant-loop-prop : goal.invariant-loop-prop
invariant-loop-prop l = record {
  numbers : l.drawn ≡ spec.drawn_scalars (frame_term l.frame) l.part (reading_of l.here) l.fn.draws l.prop;
  words : l.draws ≡ after (spec.scalar_words (frame_term l.frame) l.part l.prop) l.fn.draws;
}

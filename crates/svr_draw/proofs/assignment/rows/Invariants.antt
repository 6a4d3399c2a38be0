use Rattle.std.proofs.Common.{◌≡◌}
use Rattle.svr_frame.specs.Frame.{frame_term}
use Rattle.svr_draw.specs.Words.{after}
use Rattle.svr_draw.specs.Drawing as spec
use Rattle.svr_draw.proofs.assignment.rows.Given as goal

abbrev pub invariant-loop-prop : goal.invariant-loop-prop
invariant-loop-prop l = record {
  numbers : l.rows ≡ spec.rows (frame_term l.frame) l.part l.sizes l.scalars l.fn.draws l.prop;
  words : l.draws ≡ after (spec.element_words (frame_term l.frame) l.part l.sizes l.prop) l.fn.draws;
}

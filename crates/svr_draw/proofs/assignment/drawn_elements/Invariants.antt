use Rattle.std.proofs.Common.{◌≡◌}
use Rattle.svr_frame.specs.Frame.{frame_term}
use Rattle.svr_draw.specs.Words.{after}
use Rattle.svr_draw.specs.Drawing as spec
use Rattle.svr_draw.proofs.assignment.drawn_elements.Given as goal

abbrev pub invariant-loop-index : goal.invariant-loop-index
invariant-loop-index l = record {
  numbers : l.drawn ≡ spec.drawn_elements (frame_term l.frame) l.fn.draws l.prop l.index;
  words : l.draws ≡ after l.index l.fn.draws;
}

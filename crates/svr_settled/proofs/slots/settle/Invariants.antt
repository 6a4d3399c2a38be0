use Rattle.std.proofs.Common.{◌≡◌, ℕ, true, List, [], map, take, length}
use Rattle.std.specs.Prelude.{slice_index, slice_index_or}
use Rattle.svr_typed.specs.ExprTerm.{expr_term}
use Rattle.svr_eval.specs.Reading.{reading_of}
use Rattle.svr_frame.specs.declared.part.Part.TheVariants.{All as Whole}
use Rattle.svr_frame.specs.Frame.{frame_term}
use Rattle.svr_frame.specs.Satisfaction.{AreFixed, IsAssignment}
use Rattle.svr_values.specs.Needed.{needed_of}
use Rattle.svr_settled.specs.Steps.{hold, steps}
use Rattle.svr_settled.proofs.slots.settle.Given as goal

abbrev pub invariant-loop-at : goal.invariant-loop-at
invariant-loop-at l = record {
  reads : reading_of l.a ≡ steps (needed_of (map expr_term l.items) l.needed) (reading_of l.wanted) (reading_of l.fn.found) (take l.at l.slots);
  long : (p : ℕ) → length (slice_index_or l.a.values p []) ≡ slice_index l.fn.sizes p;
  fits : IsAssignment (frame_term l.fn.frame) Whole l.fn.sizes [] (reading_of l.a);
  fixed : (chosen : List (ℕ × ℕ)) → AreFixed (frame_term l.fn.frame) (reading_of l.wanted) chosen → AreFixed (frame_term l.fn.frame) (reading_of l.fn.found) chosen → AreFixed (frame_term l.fn.frame) (reading_of l.a) chosen;
  meets : hold (needed_of (map expr_term l.items) l.needed) (reading_of l.a) ≡ true;
}

use Rattle.std.proofs.Common.{◌≡◌, ◌++◌, length}
use Rattle.svr_lrat_made.specs.Made.{new_number, with_steps, lines_of}
use Rattle.svr_lrat_made.proofs.lines.lines_of.Given as goal

abbrev pub invariant-loop-steps_left : goal.invariant-loop-steps_left
invariant-loop-steps_left l = record {
  long : length l.marks_left ≡ length l.steps_left;
  derived : with_steps (l.given ++ l.made.derived.items) l.steps_left ≡ with_steps l.given l.fn.steps;
  lines : l.made.lines.items ++ lines_of (new_number l.numbers.inputs l.numbers.ids.items) (l.given ++ l.made.derived.items) l.marks_left l.steps_left
      ≡ lines_of (new_number l.numbers.inputs l.numbers.ids.items) l.given l.fn.marks l.fn.steps;
}

abbrev pub decreases-loop-steps_left : goal.decreases-loop-steps_left
decreases-loop-steps_left l = length l.steps_left

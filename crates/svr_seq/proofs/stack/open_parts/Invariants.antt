use Rattle.std.proofs.Common.{◌≡◌, ◌≤◌, length}
use Rattle.svr_seq.specs.SeqTerm.{part_terms}
use Rattle.svr_seq.specs.Line.{parts_tasks}
use Rattle.svr_seq.proofs.stack.open_parts.Given as goal

abbrev pub invariant-loop-left : goal.invariant-loop-left
invariant-loop-left l = record {
  tasks : parts_tasks (part_terms l.left) ≡ parts_tasks (part_terms l.parts);
  same : l.stack ≡ l.fn.stack;
  shorter : length l.left ≤ length l.parts;
}

abbrev pub decreases-loop-left : goal.decreases-loop-left
decreases-loop-left l = length l.left

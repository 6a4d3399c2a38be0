use Rattle.std.proofs.Common.{◌≡◌, ◌++◌, length}
use Rattle.svr_eval.specs.Reading.{reading_of}
use Rattle.svr_frame.specs.Occurrences.{pairs}
use Rattle.svr_expand.specs.Expanded.{place_of, findings, found_of}
use Rattle.svr_expand.specs.Operands.{operand_exprs, AllReady}
use Rattle.svr_expand.proofs.pairs.add_all_pairs.Given as goal

abbrev pub invariant-loop-left : goal.invariant-loop-left
invariant-loop-left l = record {
  ready : AllReady (reading_of l.set.state.now) (length l.env) l.left;
  told : findings l.out ++ found_of l.set (place_of l.at l.env) (pairs (operand_exprs l.left)) ≡ findings l.initial.out ++ found_of l.set (place_of l.at l.env) (pairs (operand_exprs l.operands));
}

abbrev pub decreases-loop-left : goal.decreases-loop-left
decreases-loop-left l = length l.left

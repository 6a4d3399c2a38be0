use Rattle.std.proofs.Common.{◌≡◌, ◌≤◌, ◌+◌, min, drop}
use Rattle.svr_typed.specs.ExprTerm.{expr_terms}
use Rattle.svr_frame.specs.Frame.{frame_term}
use Rattle.svr_frame_of.specs.Freeing.{all_operands}
use Rattle.svr_frame_of.proofs.operands.count_operands.Given as goal

abbrev pub invariant-loop-member : goal.invariant-loop-member
invariant-loop-member l = record {
  few : l.count ≤ 2;
  told : min 2 (l.count + all_operands (frame_term l.frame) (expr_terms (drop l.member-index l.members))) ≡ min 2 (all_operands (frame_term l.frame) (expr_terms l.members));
}

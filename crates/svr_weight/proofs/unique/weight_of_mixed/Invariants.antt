use Rattle.std.proofs.Common.{◌≡◌, ◌≤◌, ◌+◌, ◌-◌, ◌^◌, length}
use Rattle.svr_typed.specs.ExprTerm.{expr_terms}
use Rattle.svr_eval.specs.Typed.{AreTyped}
use Rattle.svr_frame.specs.Frame.{frame_term}
use Rattle.svr_frame.specs.Weight.{capped}
use Rattle.svr_weight.specs.Weighing as spec
use Rattle.svr_weight.proofs.unique.weight_of_mixed.Given as goal

abbrev pub invariant-loop-left : goal.invariant-loop-left
invariant-loop-left l = record {
  typed : AreTyped (expr_terms l.left);
  small : l.sum ≤ 2 ^ 128 - 1;
  told : capped (l.sum + spec.unique_weight (frame_term l.frame) l.part l.sizes l.around (expr_terms l.left)) ≡ capped (spec.unique_weight (frame_term l.frame) l.part l.sizes l.around (expr_terms l.members));
}

abbrev pub decreases-loop-left : goal.decreases-loop-left
decreases-loop-left l = length l.left

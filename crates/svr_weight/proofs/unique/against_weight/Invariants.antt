use Rattle.std.proofs.Common.{◌≡◌, ◌≤◌, ◌+◌, ◌-◌, ◌^◌, drop}
use Rattle.svr_typed.specs.ExprTerm.{expr_term, expr_terms}
use Rattle.svr_eval.specs.Typed.{AreTyped}
use Rattle.svr_frame.specs.Frame.{frame_term}
use Rattle.svr_frame.specs.Weight.{capped}
use Rattle.svr_weight.specs.Weighing as spec
use Rattle.svr_weight.proofs.unique.against_weight.Given as goal

abbrev pub invariant-loop-y : goal.invariant-loop-y
invariant-loop-y l = record {
  typed : AreTyped (expr_terms (drop l.y-index l.others));
  small : l.sum ≤ 2 ^ 128 - 1;
  told : capped (l.sum + spec.against_weight (frame_term l.frame) l.part l.sizes l.around (expr_term l.x) (expr_terms (drop l.y-index l.others))) ≡ capped (spec.against_weight (frame_term l.frame) l.part l.sizes l.around (expr_term l.x) (expr_terms l.others));
}

use Rattle.std.proofs.Common.{◌≡◌, ◌≤◌, length, drop}
use Rattle.svr_typed.specs.ExprTerm.{expr_terms}
use Rattle.svr_frame.specs.Frame.{frame_term}
use Rattle.svr_frame.specs.Weight.{capped}
use Rattle.svr_weight.specs.Weighing as spec
use Rattle.svr_weight.proofs.Counted.{AreTallies}
use Rattle.svr_weight.proofs.unique.weight_of_even.Given as goal

abbrev pub invariant-loop-at : goal.invariant-loop-at
invariant-loop-at l = record {
  within : l.at ≤ length l.members;
  sum : l.sum ≡ capped (spec.unique_weight (frame_term l.frame) l.part l.sizes l.around (expr_terms (drop l.at l.members)));
  behind : AreTallies (frame_term l.frame) l.part l.sizes l.around l.behind (expr_terms (drop l.at l.members));
}

abbrev pub decreases-loop-at : goal.decreases-loop-at
decreases-loop-at l = l.at

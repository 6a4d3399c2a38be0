use Rattle.std.proofs.Common.{◌++◌, ◌∷◌, []}
use Rattle.svr_typed.specs.ExprTerm.{expr_term}
use Rattle.svr_gate.specs.Circuit.{Extends, GivesNumber}
use Rattle.svr_eval.specs.Operator.{fold_of}
use Rattle.svr_eval.specs.Value.{alone}
use Rattle.svr_inputs.specs.Inputs.{read_at}
use Rattle.svr_encode.proofs.node.reduced.Given as goal

abbrev pub invariant-loop-i : goal.invariant-loop-i
invariant-loop-i l = record {
  extends : Extends l.fn.b l.b;
  value : GivesNumber l.b l.total.items l.body.width (λ v. fold_of l.op l.body.width l.i (λ i. alone (read_at l.given.inputs.now v) (l.given.env.now ++ i ∷ []) (expr_term l.body)));
}

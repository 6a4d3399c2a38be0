use Rattle.std.proofs.Common.{◌≤◌, length, drop}
use Rattle.svr_typed.specs.ExprTerm.{expr_terms}
use Rattle.svr_gate.specs.Circuit.{GivesNumber}
use Rattle.svr_eval.specs.Value.{sizes, joined}
use Rattle.svr_inputs.specs.Inputs.{read_at}
use Rattle.svr_encode.proofs.node.joined.Given as goal

abbrev pub invariant-loop-at : goal.invariant-loop-at
invariant-loop-at l = record {
  within : l.at ≤ length l.parts;
  value : GivesNumber l.b l.whole.items (sizes (expr_terms (drop l.at l.parts))) (λ v. joined (read_at l.given.inputs.now v) l.given.env.now (expr_terms (drop l.at l.parts)));
}

abbrev pub decreases-loop-at : goal.decreases-loop-at
decreases-loop-at l = l.at

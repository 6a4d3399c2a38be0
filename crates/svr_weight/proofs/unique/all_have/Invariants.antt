use Rattle.std.proofs.Common.{◌≡◌, drop}
use Rattle.svr_typed.specs.ExprTerm.{expr_terms}
use Rattle.svr_eval.specs.Typed.{AreTyped}
use Rattle.svr_weight.specs.Tallied as spec
use Rattle.svr_weight.proofs.unique.all_have.Given as goal

abbrev pub invariant-loop-member : goal.invariant-loop-member
invariant-loop-member l = record {
  typed : AreTyped (expr_terms (drop l.member-index l.members));
  same : spec.all_have l.width (expr_terms (drop l.member-index l.members)) ≡ spec.all_have l.width (expr_terms l.members);
}

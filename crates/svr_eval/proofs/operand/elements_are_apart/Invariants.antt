use Rattle.std.proofs.Common.{◌≡◌, ◌-◌, ℕ}
use Rattle.svr_typed.specs.ExprTerm.{expr_terms}
use Rattle.svr_eval.specs.Reading.{reading_of}
use Rattle.svr_eval.specs.Holds.{elements_from, operands}
use Rattle.svr_eval.specs.Operands.{are_apart}
use Rattle.svr_eval.proofs.operand.elements_are_apart.Given as goal

abbrev pub invariant-loop-at : goal.invariant-loop-at
invariant-loop-at l =
    let told = λ (i : ℕ). are_apart (elements_from (reading_of l.a) l.prop l.width l.signed i ((reading_of l.a).size l.prop - i)) (operands (reading_of l.a) l.env (expr_terms l.members)) in
    told l.at ≡ told 0

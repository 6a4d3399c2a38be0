use Rattle.std.proofs.Common.{◌≡◌, length}
use Rattle.svr_typed.specs.ExprTerm.{ExprTerms, expr_terms}
use Rattle.svr_eval.specs.Reading.{reading_of}
use Rattle.svr_eval.specs.Typed.{AreTyped, AllCanRead}
use Rattle.svr_eval.specs.Operands.{members_are_apart}
use Rattle.svr_eval.proofs.operand.each_is_apart.Given as goal

abbrev pub invariant-loop-left : goal.invariant-loop-left
invariant-loop-left l =
    let told = λ (members : ExprTerms). members_are_apart (reading_of l.a) l.env members in
    record {
      typed : AreTyped (expr_terms l.left);
      reads : AllCanRead (reading_of l.a) (length l.env) (expr_terms l.left);
      same : told (expr_terms l.left) ≡ told (expr_terms l.members);
    }

abbrev pub decreases-loop-left : goal.decreases-loop-left
decreases-loop-left l = length l.left

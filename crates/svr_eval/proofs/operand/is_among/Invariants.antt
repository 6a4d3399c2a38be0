use Rattle.std.proofs.Common.{◌≡◌, length, drop}
use Rattle.std.specs.List.{list_any}
use Rattle.svr_typed.specs.ExprTerm.{ExprTerms, expr_terms}
use Rattle.svr_eval.specs.Reading.{reading_of}
use Rattle.svr_eval.specs.Typed.{AreTyped, AllCanRead}
use Rattle.svr_eval.specs.Value.{are_equal}
use Rattle.svr_eval.specs.Holds.{operands}
use Rattle.svr_eval.specs.Operands.{seen}
use Rattle.svr_eval.proofs.operand.is_among.Given as goal

abbrev pub invariant-loop-member : goal.invariant-loop-member
invariant-loop-member l =
    let told = λ (members : ExprTerms). list_any (are_equal (seen (reading_of l.a) l.env l.x)) (operands (reading_of l.a) l.env members) in
    record {
      typed : AreTyped (expr_terms (drop l.member-index l.members));
      reads : AllCanRead (reading_of l.a) (length l.env) (expr_terms (drop l.member-index l.members));
      same : told (expr_terms (drop l.member-index l.members)) ≡ told (expr_terms l.members);
    }

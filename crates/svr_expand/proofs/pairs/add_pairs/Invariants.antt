use Rattle.std.proofs.Common.{◌≡◌, ◌++◌, length, drop}
use Rattle.svr_typed.specs.ExprTerm.{expr_terms}
use Rattle.svr_eval.specs.Reading.{reading_of}
use Rattle.svr_frame.specs.Occurrences.{members}
use Rattle.svr_mention.specs.Mentioned.{shape_in}
use Rattle.svr_expand.specs.Expanded.{ExprsAreReady}
use Rattle.svr_expand.specs.Operands.{operand_exprs, AllReady}
use Rattle.svr_expand.proofs.pairs.add_pairs.Given as goal

abbrev pub invariant-loop-member : goal.invariant-loop-member
invariant-loop-member l = record {
  ready : ExprsAreReady (reading_of l.set.state.now) (length l.env) (expr_terms (drop l.member-index l.members));
  fine : AllReady (reading_of l.set.state.now) (length l.env) l.operands;
  told : operand_exprs l.operands ++ members (shape_in l.set) (expr_terms (drop l.member-index l.members)) ≡ members (shape_in l.set) (expr_terms l.members);
}

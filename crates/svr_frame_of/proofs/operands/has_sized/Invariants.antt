use Rattle.std.proofs.Common.{◌≡◌, drop}
use Rattle.svr_typed.specs.ExprTerm.{expr_terms}
use Rattle.svr_frame.specs.Frame.{frame_term}
use Rattle.svr_frame_of.specs.Freeing.{any_sized}
use Rattle.svr_frame_of.proofs.operands.has_sized.Given as goal

abbrev pub invariant-loop-member : goal.invariant-loop-member
invariant-loop-member l = any_sized (frame_term l.frame) (expr_terms (drop l.member-index l.members)) ≡ any_sized (frame_term l.frame) (expr_terms l.members)

use Rattle.std.proofs.Common.{◌≡◌, ◌+◌, drop}
use Rattle.svr_typed.specs.ExprTerm.{expr_terms}
use Rattle.svr_frame.specs.Frame.{frame_term}
use Rattle.svr_counts.specs.Counting as spec
use Rattle.svr_counts.proofs.members.members_count.Given as goal

abbrev pub invariant-loop-member : goal.invariant-loop-member
invariant-loop-member l =
    l.count + spec.members_number (frame_term l.frame) l.sizes (expr_terms (drop l.member-index l.members)) ≡ spec.members_number (frame_term l.frame) l.sizes (expr_terms l.members)

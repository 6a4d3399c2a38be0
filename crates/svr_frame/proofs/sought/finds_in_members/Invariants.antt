use Rattle.std.proofs.Common.{◌≡◌, drop}
use Rattle.svr_typed.specs.ItemTerm.{dist_terms}
use Rattle.svr_frame.specs.Frame.{frame_term}
use Rattle.svr_frame.specs.Finds as spec
use Rattle.svr_frame.proofs.sought.finds_in_members.Given as goal

abbrev pub invariant-loop-member : goal.invariant-loop-member
invariant-loop-member l = spec.finds_in_members (frame_term l.frame) l.sought (dist_terms (drop l.member-index l.members)) ≡ spec.finds_in_members (frame_term l.frame) l.sought (dist_terms l.members)

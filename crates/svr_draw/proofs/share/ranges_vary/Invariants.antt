use Rattle.std.proofs.Common.{◌≡◌, drop}
use Rattle.svr_typed.specs.ItemTerm.{dist_terms}
use Rattle.svr_frame.specs.Frame.{frame_term}
use Rattle.svr_draw.specs.Picking as pick
use Rattle.svr_draw.proofs.share.ranges_vary.Given as goal

abbrev pub invariant-loop-member : goal.invariant-loop-member
invariant-loop-member l = pick.ranges_vary (frame_term l.frame) (dist_terms (drop l.member-index l.members)) ≡ pick.ranges_vary (frame_term l.frame) (dist_terms l.members)

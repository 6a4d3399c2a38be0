use Rattle.std.proofs.Common.{◌≡◌, map, take}
use Rattle.svr_typed.specs.ExprTerm.{range_term}
use Rattle.svr_frame.specs.Frame.{frame_term, members_of_enum}
use Rattle.svr_expand.specs.Domains.{member_range}
use Rattle.svr_expand.proofs.domain.member_ranges.Given as goal

abbrev pub invariant-loop-member : goal.invariant-loop-member
invariant-loop-member l = map range_term l.ranges ≡ map (member_range (frame_term l.frame) l.prop) (take l.member (members_of_enum (frame_term l.frame) l.named))

use Rattle.std.proofs.Common.{◌≡◌, take}
use Rattle.svr_frame.specs.Frame.{frame_term, members_of_enum}
use Rattle.svr_cyclic.proofs.values.members.Given as goal

abbrev pub invariant-loop-member : goal.invariant-loop-member
invariant-loop-member l = l.values.items ≡ take l.member (members_of_enum (frame_term l.frame) l.named)

use Rattle.std.proofs.Common.{sym, ◌∙◌, arith}
use Rattle.svr_frame.specs.Frame.{frame_term}
use Rattle.svr_frame_of.proofs.Steps.{sized_found, sized_more, sized_end}
use Rattle.svr_frame_of.proofs.operands.has_sized.Goals as goal

pub returns-then-is_sized : goal.returns-then-is_sized
returns-then-is_sized c =
    sized_found (frame_term c.args.frame.now) c.member-item.result c.args.members.now c.loop-member.member-index _ c.loop-member-test.true c.member-item.is (sym c.is_sized.ensures ∙ c.if-is_sized.true) c.loop-member.invariant

pub loop-member-preserved : goal.loop-member-preserved
loop-member-preserved c =
    sized_more (frame_term c.args.frame.now) c.member-item.result c.args.members.now c.loop-member.member-index _ c.loop-member-test.true c.member-item.is (sym c.is_sized.ensures ∙ c.if-is_sized.false) c.loop-member.invariant

pub returns : goal.returns
returns c = sized_end (frame_term c.args.frame.now) c.args.members.now c.loop-member.member-index _ (omega (arith, c.loop-member-test.false)) c.loop-member.invariant

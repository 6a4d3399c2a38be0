use Rattle.std.proofs.Common.{◌∷◌, ◌++◌, [], sym, ◌∙◌, arith}
use Rattle.std.proofs.lemmas.List.{take_more, take_all}
use Rattle.svr_frame.specs.Frame.{frame_term, members_of_enum}
use Rattle.svr_cyclic.proofs.values.members.Goals as goal

pub loop-member-preserved : goal.loop-member-preserved
loop-member-preserved c =
    c.in_ok-push.ensures.items
    ∙ (λ k. c.loop-member.invariant k ++ c.enum_value.ensures k ∷ [])
    ∙ sym (take_more (members_of_enum (frame_term c.args.frame.now) c.args.named) c.loop-member.member 0 (omega (arith, c.loop-member-test.true, c.enum_size-member-end.ensures)))

pub returns : goal.returns
returns c =
    c.loop-member.invariant ∙ take_all c.loop-member.member (members_of_enum (frame_term c.args.frame.now) c.args.named) (omega (arith, c.loop-member-test.false, c.enum_size-member-end.ensures))

use Rattle.std.proofs.Common.{◌≡◌, ◌+◌, ◌-◌, ◌<◌, length, arith, ◌∙◌}
use Rattle.svr_typed.specs.ExprTerm.{expr_term}
use Rattle.svr_frame.specs.Frame.{frame_term}
use Rattle.svr_weight.proofs.Counted.{IsMember, start_weighed, start_tallied, one_typed, tallied_next, weighed_next, weighed_all}
use Rattle.svr_weight.proofs.unique.weight_of_even.Goals as goal

pub loop-at-init : goal.loop-at-init
loop-at-init c =
    let f = frame_term c.args.frame.now in
    record {
      within = omega arith;
      sum = start_weighed f c.args.part c.args.sizes.now c.args.around c.args.members.now _ (omega arith);
      behind = start_tallied f c.args.part c.args.sizes.now c.args.around c.args.members.now _ _ (omega arith) c.none-behind.ensures;
    }

pub of-member-requires : goal.of-member-requires
of-member-requires c = one_typed c.args.members.now (c.loop-at.at - 1) c.index-members-at.result (omega (arith, c.loop-at.invariant.within)) c.index-members-at.is c.requires.typed

pub loop-at-preserved : goal.loop-at-preserved
loop-at-preserved c =
    let f = frame_term c.args.frame.now in
    let lt : c.loop-at.at - 1 < length c.args.members.now = omega (arith, c.loop-at.invariant.within) in
    let up : c.loop-at.at - 1 + 1 ≡ c.loop-at.at = omega (arith, c.loop-at-test.true) in
    let is : IsMember f c.args.part c.args.sizes.now c.args.around c.of-member.result (expr_term c.index-members-at.result) = record { mentions = c.of-member.ensures.mentions; count = c.of-member.ensures.count; own = c.of-member.ensures.own } in
    record {
      within = omega (arith, lt);
      sum = c.add-sum.ensures ∙ weighed_next f c.args.part c.args.sizes.now c.args.around c.args.width c.args.members.now (c.loop-at.at - 1) c.loop-at.at c.index-members-at.result lt up c.index-members-at.is c.requires.even c.of-member.result is c.loop-at.behind c.loop-at.invariant.behind c.loop-at.sum c.counted_weight.result c.counted_weight.ensures c.loop-at.invariant.sum;
      behind = tallied_next f c.args.part c.args.sizes.now c.args.around c.args.members.now (c.loop-at.at - 1) c.loop-at.at c.index-members-at.result lt up c.index-members-at.is c.of-member.result is c.loop-at.behind c.loop-at.invariant.behind _ c.plus-behind.ensures;
    }

pub returns : goal.returns
returns c = weighed_all (frame_term c.args.frame.now) c.args.part c.args.sizes.now c.args.around c.args.members.now c.loop-at.at (omega (arith, c.loop-at-test.false)) c.loop-at.sum c.loop-at.invariant.sum

use Rattle.std.proofs.Common.{◌+◌}
use Rattle.svr_weight.proofs.Counted.{typed_from, have_more}
use Rattle.svr_weight.proofs.unique.all_have.Goals as goal

pub loop-member-preserved : goal.loop-member-preserved
loop-member-preserved c = record {
  typed = typed_from c.args.members.now (c.loop-member.member-index + 1) c.requires;
  same = have_more c.args.width c.args.members.now c.loop-member.member-index c.member-item.result c.loop-member-test.true c.member-item.is c.if-member-width.false c.requires c.loop-member.invariant.same;
}

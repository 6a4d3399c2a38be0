use Rattle.std.proofs.Common.{◌++◌, refl, arith}
use Rattle.std.specs.List.{flat_map}
use Rattle.svr_script.specs.Conflicts.{member_text}
use Rattle.svr_stream.proofs.Rows.{left_all, row_more, row_none}
use Rattle.svr_printed.proofs.conflict.put_members.Goals as goal

pub loop-member-init : goal.loop-member-init
loop-member-init g c = left_all

pub loop-member-preserved : goal.loop-member-preserved
loop-member-preserved g c =
    row_more (flat_map (member_text c.args.names.now)) c.args.members.now c.loop-member.member-index c.member-item.result c.loop-member.invariant c.put_member.ensures (omega arith) c.member-item.is refl

pub returns : goal.returns
returns g c = row_none (flat_map (member_text c.args.names.now)) c.args.members.now c.loop-member.member-index c.loop-member.invariant (omega arith) refl

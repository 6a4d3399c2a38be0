use Rattle.std.proofs.Common.{List, subst, arith}
use Rattle.std.specs.List.{AllZip}
use Rattle.std.proofs.lemmas.List.{take_all}
use Rattle.svr_frame.specs.Frame.{frame_term}
use Rattle.svr_core.specs.declared.search.Needed.{Needed}
use Rattle.svr_conflict.specs.Read.{IsRead}
use Rattle.svr_conflict.proofs.Items.{zip_more}
use Rattle.svr_conflict.proofs.found.members_of.Goals as goal

pub loop-needed-preserved : goal.loop-needed-preserved
loop-needed-preserved c =
    zip_more (IsRead (frame_term c.args.frame.now) c.args.sizes.now c.args.encoding.now) c.args.core.now c.loop-needed.members.items _ c.loop-needed.needed-index c.needed-item.result c.in_ok-member.member (omega arith)
    c.needed-item.is c.in_ok-push.ensures.items c.loop-needed.invariant c.in_ok-member.ensures

pub returns : goal.returns
returns c =
    subst (λ (cs : List Needed). AllZip (IsRead (frame_term c.args.frame.now) c.args.sizes.now c.args.encoding.now) cs c.loop-needed.members.items) (take_all c.loop-needed.needed-index c.args.core.now (omega arith)) c.loop-needed.invariant

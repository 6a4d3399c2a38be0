use Rattle.std.proofs.lemmas.Result.{IfOk-weaker}
use Rattle.svr_sized.proofs.Turned.{put_between}
use Rattle.svr_sized.proofs.cut.put_before_last.Goals as goal

pub returns : goal.returns
returns g c =
    IfOk-weaker c.put_back.result _ _
    (λ all back front last is long. put_between c.args.items c.in_ok-cut.cut.front c.in_ok-cut.cut.turned c.args.more _ all front last c.args.count c.in_ok-cut.ensures.whole c.in_ok-cut.ensures.count c.in_ok-append.ensures back is long)
    c.put_back.ensures

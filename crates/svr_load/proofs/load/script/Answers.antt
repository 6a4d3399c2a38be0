use Rattle.std.proofs.lemmas.Result.{IfOk-weaker}
use Rattle.svr_load.proofs.Joined.{script_joined}
use Rattle.svr_load.proofs.load.script.Goals as goal

pub returns : goal.returns
returns c = IfOk-weaker c.format.result _ _ (λ s text_is. script_joined c.args.n _ _ _ _ c.in_ok-classes.ensures c.in_ok-objects.ensures c.in_ok-calls.ensures text_is) c.format.ensures.ok

use Rattle.std.proofs.lemmas.Result.{IfOk-weaker}
use Rattle.svr_elab_unit.proofs.Runs.{made_is}
use Rattle.svr_elab_unit.proofs.top.run.Goals as goal

pub returns : goal.returns
returns c = IfOk-weaker c.run_behind.result _ _ (λ p h. made_is _ p _ h) c.run_behind.ensures

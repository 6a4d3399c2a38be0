use Rattle.std.proofs.lemmas.Result.{IfOk-weaker}
use Rattle.svr_load.proofs.Joined.{class_joined}
use Rattle.svr_load.proofs.load.class_text.Goals as goal

pub returns : goal.returns
returns c = IfOk-weaker c.format.result _ _ (λ s text_is. class_joined c.args.i c.sum_of-sum.result c.contradiction-last.result.now _ c.sum_of-sum.ensures c.contradiction-last.ensures text_is) c.format.ensures.ok

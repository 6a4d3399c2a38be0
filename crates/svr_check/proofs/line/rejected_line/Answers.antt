use Rattle.std.proofs.lemmas.Result.{IfOk-weaker}
use Rattle.svr_check.proofs.Joined.{rejected_joined}
use Rattle.svr_check.proofs.line.rejected_line.Goals as goal

pub returns : goal.returns
returns c = IfOk-weaker c.format.result _ _ (λ s text_is. rejected_joined c.args.id c.args.reason c.word-why.result.now _ c.word-why.ensures text_is) c.format.ensures.ok

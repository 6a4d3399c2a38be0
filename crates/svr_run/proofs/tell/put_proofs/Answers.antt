use Rattle.std.proofs.lemmas.Result.{on_ok_weaker, on_err_weaker}
use Rattle.svr_stream.proofs.Putting.{puts_as}
use Rattle.svr_derived.proofs.Fronts.{front_as}
use Rattle.svr_run.proofs.Written.{first_text, second_text}
use Rattle.svr_run.proofs.tell.put_proofs.Goals as goal

pub returns-then-extra-clause-whole : goal.returns-then-extra-clause-whole
returns-then-extra-clause-whole g c = on_ok_weaker c.put_derived.result (λ h. puts_as h (first_text c.args.extra.lrat _ _ c.if-extra.true)) c.put_derived.ensures.whole

pub returns-then-extra-clause-front : goal.returns-then-extra-clause-front
returns-then-extra-clause-front g c = on_err_weaker c.put_derived.result (λ h. front_as h (first_text c.args.extra.lrat _ _ c.if-extra.true)) c.put_derived.ensures.front

pub returns-else-extra-clause-whole : goal.returns-else-extra-clause-whole
returns-else-extra-clause-whole g c = puts_as c.put_found.ensures (second_text c.args.extra.lrat _ _ c.if-extra.false)

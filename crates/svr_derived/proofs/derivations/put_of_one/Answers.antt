use Rattle.std.proofs.lemmas.Result.{on_ok_weaker, IfErr-weaker}
use Rattle.svr_stream.proofs.Putting.{puts_then}
use Rattle.svr_derived.proofs.Fronts.{failed_with, front_then, front_longer}
use Rattle.svr_derived.proofs.derivations.put_of_one.Goals as goal

pub returns-in_err-put_cycles-clause-front : goal.returns-in_err-put_cycles-clause-front
returns-in_err-put_cycles-clause-front g c = failed_with c.from_residual.result _ (front_longer _ c.in_err-put_cycles.ensures.front)

pub returns-clause-whole : goal.returns-clause-whole
returns-clause-whole g c = on_ok_weaker c.put_dropped.result (λ rest. puts_then c.in_ok-put_cycles.ensures.whole rest) c.put_dropped.ensures.whole

pub returns-clause-front : goal.returns-clause-front
returns-clause-front g c = IfErr-weaker c.put_dropped.result _ _ (λ e rest. front_then c.in_ok-put_cycles.ensures.whole rest) c.put_dropped.ensures.front

use Rattle.std.proofs.Common.{cond, []}
use Rattle.svr_frame.specs.Frame.{frame_term}
use Rattle.svr_stream.proofs.Putting.{puts_then}
use Rattle.svr_script.specs.ProofText.{logs_of}
use Rattle.svr_derived.proofs.Fronts.{front_longer}
use Rattle.svr_run.proofs.Written.{failed_with}
use Rattle.svr_run.proofs.tell.put_derived.Goals as goal

pub returns-in_err-put_derivations-clause-front : goal.returns-in_err-put_derivations-clause-front
returns-in_err-put_derivations-clause-front g c = failed_with c.from_residual.result _ (front_longer (cond c.args.opts.proofs (logs_of (frame_term c.args.told.now.frame.now) c.args.told.now.outcome.now) []) c.in_err-put_derivations.ensures.front)

pub returns-clause-whole : goal.returns-clause-whole
returns-clause-whole g c = puts_then c.in_ok-put_derivations.ensures.whole c.put_given_up.ensures

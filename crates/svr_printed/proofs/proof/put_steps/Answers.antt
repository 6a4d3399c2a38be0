use Rattle.std.proofs.Common.{◌++◌, refl, arith}
use Rattle.svr_script.specs.ProofText.{steps_text}
use Rattle.svr_stream.proofs.Rows.{left_all, row_more, row_none}
use Rattle.svr_printed.proofs.proof.put_steps.Goals as goal

pub loop-step-init : goal.loop-step-init
loop-step-init g c = left_all

pub loop-step-preserved : goal.loop-step-preserved
loop-step-preserved g c =
    row_more (steps_text) c.args.steps.now c.loop-step.step-index c.step-item.result c.loop-step.invariant c.put_step.ensures (omega arith) c.step-item.is refl

pub returns : goal.returns
returns g c = row_none (steps_text) c.args.steps.now c.loop-step.step-index c.loop-step.invariant (omega arith) refl

use Rattle.std.proofs.Common.{◌≡◌, ◌++◌, drop}
use Rattle.svr_script.specs.ProofText.{steps_text}
use Rattle.svr_stream.specs.Puts.{place}
use Rattle.svr_stream.proofs.Rows.{HasLeft}
use Rattle.svr_printed.proofs.proof.put_steps.Given as goal

abbrev pub invariant-loop-step : goal.invariant-loop-step
invariant-loop-step g l = HasLeft (place (g.K.Sink.written l.initial.out) (g.K.Sink.faults l.initial.out) l.initial.text) (place (g.K.Sink.written l.out) (g.K.Sink.faults l.out) l.text)
    (steps_text l.steps) (steps_text (drop l.step-index l.steps))

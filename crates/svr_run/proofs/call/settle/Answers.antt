use Rattle.svr_typed.specs.StmtTerm.{call_term, design_term}
use Rattle.svr_frame.specs.Frame.{frame_term}
use Rattle.svr_script.specs.Statement.{class_of_var}
use Rattle.svr_run.specs.Telling.{printing_of, sinks}
use Rattle.svr_run.proofs.Written.{told_in, front_in, failed_with, failed_as, same_cause}
use Rattle.svr_run.proofs.call.settle.Goals as goal

pub returns-clause-told : goal.returns-clause-told
returns-clause-told g c =
    let d = design_term c.args.script.now.design.now in
    let call = call_term c.args.call.now in
    let a = sinks (g.K.Sink.written c.args.out.now) (g.K.Sink.faults c.args.out.now) (g.J.Sink.written c.args.journal.now) (g.J.Sink.faults c.args.journal.now) in
    let u = sinks (g.K.Sink.written c.tell.new.out) (g.K.Sink.faults c.tell.new.out) (g.J.Sink.written c.tell.new.journal) (g.J.Sink.faults c.tell.new.journal) in
    told_in (printing_of c.args.script.now.opts c.args.script.now.extra) d c.args.progress.now call (frame_term c.args.frame.now) c.args.outcome.now c.args.conflict.now c.name_of_var.result.now c.values.result.now a u
    c.name_of_var.ensures c.values.ensures.values c.requires.named (c.in_ok-tell.ensures.whole (class_of_var d call.object))

pub returns-in_err-tell-clause-front : goal.returns-in_err-tell-clause-front
returns-in_err-tell-clause-front g c =
    let d = design_term c.args.script.now.design.now in
    let call = call_term c.args.call.now in
    let a = sinks (g.K.Sink.written c.args.out.now) (g.K.Sink.faults c.args.out.now) (g.J.Sink.written c.args.journal.now) (g.J.Sink.faults c.args.journal.now) in
    let u = sinks (g.K.Sink.written c.tell.new.out) (g.K.Sink.faults c.tell.new.out) (g.J.Sink.written c.tell.new.journal) (g.J.Sink.faults c.tell.new.journal) in
    failed_with c.from_residual.result _
    (front_in (printing_of c.args.script.now.opts c.args.script.now.extra) d c.args.progress.now call (frame_term c.args.frame.now) c.args.outcome.now c.args.conflict.now c.name_of_var.result.now c.values.result.now a u
    c.name_of_var.ensures c.values.ensures.values c.requires.named (c.in_err-tell.ensures.front (class_of_var d call.object)))

pub returns-in_err-tell-clause-cause : goal.returns-in_err-tell-clause-cause
returns-in_err-tell-clause-cause g c =
    let a = sinks (g.K.Sink.written c.args.out.now) (g.K.Sink.faults c.args.out.now) (g.J.Sink.written c.args.journal.now) (g.J.Sink.faults c.args.journal.now) in
    let u = sinks (g.K.Sink.written c.tell.new.out) (g.K.Sink.faults c.tell.new.out) (g.J.Sink.written c.tell.new.journal) (g.J.Sink.faults c.tell.new.journal) in
    failed_as c.from_residual.result _ _ c.from_residual.ensures.1
    (λ why e. same_cause why _ a u e c.in_err-tell.ensures.cause)

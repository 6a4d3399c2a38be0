use Rattle.std.proofs.Common.{◌<◌, ◌^◌, ◌+◌, length, ap, sym, subst, arith}
use Rattle.std.proofs.lemmas.Result.{on_ok_weaker, IfErr-weaker}
use Rattle.svr_typed.specs.ClassTerm.{FlatTerm}
use Rattle.svr_typed.specs.StmtTerm.{call, call_term, design_term}
use Rattle.svr_world.specs.World.{object_of}
use Rattle.svr_frame.specs.Frame.{FrameTerm, frame_term}
use Rattle.svr_script.specs.Statement.{class_of_var}
use Rattle.svr_script.specs.Run.{State}
use Rattle.svr_derived.proofs.Showing.{proofs_shown}
use Rattle.svr_run.specs.declared.stop.Stop.TheVariants.{NoMemory}
use Rattle.svr_run.specs.Telling.{sinks}
use Rattle.svr_run.specs.Watching.{watcher}
use Rattle.svr_run.proofs.Written.{all_ok, failed_as}
use Rattle.svr_run.proofs.Fits.{zero_fits}
use Rattle.svr_run.proofs.Renewed.{modes_behind}
use Rattle.svr_run.proofs.Sampling.{sampled_as}
use Rattle.svr_run.proofs.Walking.{can_execute, can_watch, has_room, counts_fit, halts_here, halts_as, call_steps, call_halts}
use Rattle.svr_run.proofs.call.answer.Goals as goal

pub overflow_add-number : goal.overflow_add-number
overflow_add-number g c =
    omega (arith, has_room (watcher g.W.Watch.content g.W.Watch.step g.W.Watch.left) (design_term c.args.script.now.design.now) c.args.script.now.opts c.args.script.now.extra c.requires.can_run (call (call_term c.args.call.now)) c.args.run.now _ c.requires.next)

pub randomize_again-requires-clause-made : goal.randomize_again-requires-clause-made
randomize_again-requires-clause-made g c =
    (can_execute (watcher g.W.Watch.content g.W.Watch.step g.W.Watch.left) (design_term c.args.script.now.design.now) c.args.script.now.opts c.args.script.now.extra c.requires.can_run (call (call_term c.args.call.now)) c.args.run.now _ c.requires.going c.requires.next).0

pub sample-requires : goal.sample-requires
sample-requires g c =
    can_watch (watcher g.W.Watch.content g.W.Watch.step g.W.Watch.left) (design_term c.args.script.now.design.now) c.args.script.now.opts c.args.script.now.extra (call (call_term c.args.call.now)) c.args.run.now _ c.requires.next

pub answered-told-requires-clause-few : goal.answered-told-requires-clause-few
answered-told-requires-clause-few g c =
    has_room (watcher g.W.Watch.content g.W.Watch.step g.W.Watch.left) (design_term c.args.script.now.design.now) c.args.script.now.opts c.args.script.now.extra c.requires.can_run (call (call_term c.args.call.now)) c.args.run.now _ c.requires.next

pub answered-told-requires-clause-counts : goal.answered-told-requires-clause-counts
answered-told-requires-clause-counts g c =
    counts_fit (watcher g.W.Watch.content g.W.Watch.step g.W.Watch.left) (design_term c.args.script.now.design.now) c.args.script.now.opts c.args.script.now.extra (call (call_term c.args.call.now)) c.args.run.now _ c.requires.next

pub answered-told-requires-clause-class : goal.answered-told-requires-clause-class
answered-told-requires-clause-class g c = ap (λ (f : FrameTerm). f.class) c.requires.framed

pub answered-told-requires-clause-few_blocks : goal.answered-told-requires-clause-few_blocks
answered-told-requires-clause-few_blocks g c =
    subst (λ (k : FlatTerm). length k.blocks < 2 ^ 32) (sym (ap (λ (f : FrameTerm). f.class) c.requires.framed))
    (can_execute (watcher g.W.Watch.content g.W.Watch.step g.W.Watch.left) (design_term c.args.script.now.design.now) c.args.script.now.opts c.args.script.now.extra c.requires.can_run (call (call_term c.args.call.now)) c.args.run.now _ c.requires.going c.requires.next).1.few_blocks

pub answered-told-requires-clause-fits : goal.answered-told-requires-clause-fits
answered-told-requires-clause-fits g c =
    zero_fits c.args.run.now.progress.world c.args.call.now.object (frame_term c.args.frame.now) (c.args.run.now.progress.calls + 1) c.args.script.now.opts c.in_ok-outcome.outcome c.randomize_again.new.world c.requires.sound c.requires.allowed.2 c.in_ok-outcome.ensures.step

pub answered-told-requires-clause-shown : goal.answered-told-requires-clause-shown
answered-told-requires-clause-shown g c =
    proofs_shown c.args.run.now.progress.world c.args.call.now.object (frame_term c.args.frame.now) (c.args.run.now.progress.calls + 1) c.args.script.now.opts c.in_ok-outcome.outcome c.randomize_again.new.world c.in_ok-outcome.ensures.step

pub returns-in_err-outcome-clause-halts : goal.returns-in_err-outcome-clause-halts
returns-in_err-outcome-clause-halts g c =
    let wa = watcher g.W.Watch.content g.W.Watch.step g.W.Watch.left in
    let d = design_term c.args.script.now.design.now in
    let opts = c.args.script.now.opts in
    let extra = c.args.script.now.extra in
    let x = call (call_term c.args.call.now) in
    let p = c.args.run.now in
    let a = sinks (g.K.Sink.written c.args.out.now) (g.K.Sink.faults c.args.out.now) (g.J.Sink.written c.args.journal.now) (g.J.Sink.faults c.args.journal.now) in
    failed_as c.from_residual.result _ _ c.from_residual.ensures.1
    (λ why e. halts_as wa d opts extra x p a a why NoMemory e (halts_here wa d opts extra x p a))

pub returns-clause-steps : goal.returns-clause-steps
returns-clause-steps g c =
    let wa = watcher g.W.Watch.content g.W.Watch.step g.W.Watch.left in
    let d = design_term c.args.script.now.design.now in
    let opts = c.args.script.now.opts in
    let extra = c.args.script.now.extra in
    let ct = call_term c.args.call.now in
    let p = c.args.run.now in
    let w = c.randomize_again.new.world in
    let o = c.in_ok-outcome.outcome in
    let a = sinks (g.K.Sink.written c.args.out.now) (g.K.Sink.faults c.args.out.now) (g.J.Sink.written c.args.journal.now) (g.J.Sink.faults c.args.journal.now) in
    let u = sinks (g.K.Sink.written c.answered-told.new.out) (g.K.Sink.faults c.answered-told.new.out) (g.J.Sink.written c.answered-told.new.journal) (g.J.Sink.faults c.answered-told.new.journal) in
    let takes = sampled_as g.W.Watch.step o (g.W.Watch.content p.watch) (g.W.Watch.content c.sample.new.watch) c.class_of_var-class.result (class_of_var d ct.object) c.values-values.result.now (object_of w ct.object).values c.class_of_var-class.ensures c.values-values.ensures.values c.sample.ensures.content in
    all_ok c.answered-told.result _ _ _ _ _ c.answered-told.ensures.state c.answered-told.ensures.counts c.answered-told.ensures.told c.answered-told.ensures.told
    (λ state counts told again. call_steps wa d opts extra ct (frame_term c.args.frame.now) p (record p { progress = c.answered-told.new.progress; watch = c.sample.new.watch }) w o a u c.requires.going c.requires.framed c.in_ok-outcome.ensures.step state counts told takes c.sample.ensures.left)

pub returns-clause-modes : goal.returns-clause-modes
returns-clause-modes g c =
    let wa = watcher g.W.Watch.content g.W.Watch.step g.W.Watch.left in
    let d = design_term c.args.script.now.design.now in
    let opts = c.args.script.now.opts in
    let extra = c.args.script.now.extra in
    let ct = call_term c.args.call.now in
    let p = c.args.run.now in
    let made = (can_execute wa d opts extra c.requires.can_run (call ct) p _ c.requires.going c.requires.next).0 in
    on_ok_weaker c.answered-told.result
    (λ state. modes_behind ct (frame_term c.args.frame.now) (p.progress.calls + 1) opts p.progress.world c.randomize_again.new.world c.answered-told.new.progress.world c.in_ok-outcome.outcome made c.in_ok-outcome.ensures.step (ap (λ (s : State). s.world) state))
    c.answered-told.ensures.state

pub returns-clause-kept : goal.returns-clause-kept
returns-clause-kept g c = on_ok_weaker c.answered-told.result (λ state. c.in_ok-outcome.ensures.kept) c.answered-told.ensures.state

pub returns-clause-halts : goal.returns-clause-halts
returns-clause-halts g c =
    let wa = watcher g.W.Watch.content g.W.Watch.step g.W.Watch.left in
    let d = design_term c.args.script.now.design.now in
    let opts = c.args.script.now.opts in
    let extra = c.args.script.now.extra in
    let a = sinks (g.K.Sink.written c.args.out.now) (g.K.Sink.faults c.args.out.now) (g.J.Sink.written c.args.journal.now) (g.J.Sink.faults c.args.journal.now) in
    let u = sinks (g.K.Sink.written c.answered-told.new.out) (g.K.Sink.faults c.answered-told.new.out) (g.J.Sink.written c.answered-told.new.journal) (g.J.Sink.faults c.answered-told.new.journal) in
    IfErr-weaker c.answered-told.result _ _
    (λ why cut. call_halts wa d opts extra (call_term c.args.call.now) (frame_term c.args.frame.now) c.args.run.now c.randomize_again.new.world c.in_ok-outcome.outcome a u why c.requires.going c.requires.framed c.in_ok-outcome.ensures.step cut)
    c.answered-told.ensures.not_told

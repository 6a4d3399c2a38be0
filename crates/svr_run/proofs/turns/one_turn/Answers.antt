use Rattle.std.proofs.Common.{◌∷◌, [], refl, ap}
use Rattle.std.proofs.lemmas.Result.{on_ok_weaker, IfErr-weaker}
use Rattle.svr_typed.specs.StmtTerm.{call, call_term, design_term}
use Rattle.svr_frame.specs.Frame.{FrameTerm, frame_term}
use Rattle.svr_randomize.specs.Kept.{with_state}
use Rattle.svr_randomize.proofs.Keeping.{kept_in}
use Rattle.svr_run.specs.declared.stop.Stop.TheVariants.{NoMemory}
use Rattle.svr_run.specs.Telling.{sinks}
use Rattle.svr_run.specs.Watching.{watcher}
use Rattle.svr_run.specs.Reached.{IsNext}
use Rattle.svr_run.proofs.Written.{failed_as}
use Rattle.svr_run.proofs.Walking.{can_execute, next_of, goes_by, goes_limited, breaks_by, breaks_as, halts_here}
use Rattle.svr_run.proofs.Renewed.{first_frame, frame_behind, few_props, has_chosen, renewed_is, frame_sound}
use Rattle.svr_run.proofs.turns.one_turn.Goals as goal

pub returns-then-run-clause-goes : goal.returns-then-run-clause-goes
returns-then-run-clause-goes g c =
    let wa = watcher g.W.Watch.content g.W.Watch.step g.W.Watch.left in
    let d = design_term c.args.script.now.design.now in
    let s = sinks (g.K.Sink.written c.args.out.now) (g.K.Sink.faults c.args.out.now) (g.J.Sink.written c.args.journal.now) (g.J.Sink.faults c.args.journal.now) in
    goes_limited wa d c.args.script.now.opts c.args.script.now.extra (call (call_term c.args.call.now) ∷ []) c.args.run.now s c.if-run.true

pub renew-requires-clause-few : goal.renew-requires-clause-few
renew-requires-clause-few g c =
    let wa = watcher g.W.Watch.content g.W.Watch.step g.W.Watch.left in
    let d = design_term c.args.script.now.design.now in
    let opts = c.args.script.now.opts in
    let extra = c.args.script.now.extra in
    let ct = call_term c.args.call.now in
    let p = c.args.run.now in
    let s = sinks (g.K.Sink.written c.args.out.now) (g.K.Sink.faults c.args.out.now) (g.J.Sink.written c.args.journal.now) (g.J.Sink.faults c.args.journal.now) in
    let next : IsNext wa d opts extra (call ct) p s = next_of wa d opts extra (call ct) (call ct ∷ []) p s refl c.if-run.false c.requires.before in
    few_props d ct (frame_term c.args.frame.now) p.progress.world c.requires.framed (can_execute wa d opts extra c.requires.can_run (call ct) p s c.if-run.false next).1

pub renew-requires-clause-chosen : goal.renew-requires-clause-chosen
renew-requires-clause-chosen g c = has_chosen (design_term c.args.script.now.design.now) (call_term c.args.call.now) (frame_term c.args.frame.now) c.args.run.now.progress.world c.requires.framed

pub answer-requires-clause-next : goal.answer-requires-clause-next
answer-requires-clause-next g c =
    let wa = watcher g.W.Watch.content g.W.Watch.step g.W.Watch.left in
    let d = design_term c.args.script.now.design.now in
    let ct = call_term c.args.call.now in
    next_of wa d c.args.script.now.opts c.args.script.now.extra (call ct) (call ct ∷ []) c.args.run.now _ refl c.if-run.false c.requires.before

pub answer-requires-clause-framed : goal.answer-requires-clause-framed
answer-requires-clause-framed g c =
    let d = design_term c.args.script.now.design.now in
    renewed_is d (call_term c.args.call.now) (frame_term c.args.frame.now) c.args.run.now.progress.world (frame_term c.renew.new.frame) c.requires.framed c.in_ok-renew.ensures

pub answer-requires-clause-kept : goal.answer-requires-clause-kept
answer-requires-clause-kept g c =
    kept_in (frame_term c.args.frame.now) (frame_term c.renew.new.frame) (λ s free. ap (λ (x : FrameTerm). with_state x s free) c.in_ok-renew.ensures) c.args.kept.now c.requires.kept

pub answer-requires-clause-sound : goal.answer-requires-clause-sound
answer-requires-clause-sound g c =
    let wa = watcher g.W.Watch.content g.W.Watch.step g.W.Watch.left in
    let d = design_term c.args.script.now.design.now in
    let opts = c.args.script.now.opts in
    let extra = c.args.script.now.extra in
    let ct = call_term c.args.call.now in
    let p = c.args.run.now in
    let s = sinks (g.K.Sink.written c.args.out.now) (g.K.Sink.faults c.args.out.now) (g.J.Sink.written c.args.journal.now) (g.J.Sink.faults c.args.journal.now) in
    let next : IsNext wa d opts extra (call ct) p s = next_of wa d opts extra (call ct) (call ct ∷ []) p s refl c.if-run.false c.requires.before in
    frame_sound d p.progress.world ct (frame_term c.renew.new.frame)
    (renewed_is d ct (frame_term c.args.frame.now) p.progress.world (frame_term c.renew.new.frame) c.requires.framed c.in_ok-renew.ensures)
    (can_execute wa d opts extra c.requires.can_run (call ct) p s c.if-run.false next).1

pub returns-in_err-renew-clause-breaks : goal.returns-in_err-renew-clause-breaks
returns-in_err-renew-clause-breaks g c =
    let wa = watcher g.W.Watch.content g.W.Watch.step g.W.Watch.left in
    let d = design_term c.args.script.now.design.now in
    let opts = c.args.script.now.opts in
    let extra = c.args.script.now.extra in
    let x = call (call_term c.args.call.now) in
    let p = c.args.run.now in
    let s = sinks (g.K.Sink.written c.args.out.now) (g.K.Sink.faults c.args.out.now) (g.J.Sink.written c.args.journal.now) (g.J.Sink.faults c.args.journal.now) in
    failed_as c.from_residual.result _ _ c.from_residual.ensures.1
    (λ why e. breaks_as wa d opts extra (x ∷ []) p s s why NoMemory e (breaks_by wa d opts extra x (x ∷ []) p s s NoMemory refl c.if-run.false (halts_here wa d opts extra x p s)))

pub returns-clause-framed : goal.returns-clause-framed
returns-clause-framed g c =
    let d = design_term c.args.script.now.design.now in
    let ct = call_term c.args.call.now in
    let w = c.args.run.now.progress.world in
    let f = frame_term c.renew.new.frame in
    let now = first_frame d ct f w (renewed_is d ct (frame_term c.args.frame.now) w f c.requires.framed c.in_ok-renew.ensures) in
    on_ok_weaker c.answer.result (λ same. frame_behind d ct f w c.answer.new.run.progress.world now same) c.answer.ensures.modes

pub returns-clause-goes : goal.returns-clause-goes
returns-clause-goes g c =
    let x = call (call_term c.args.call.now) in
    on_ok_weaker c.answer.result
    (goes_by (watcher g.W.Watch.content g.W.Watch.step g.W.Watch.left) (design_term c.args.script.now.design.now) c.args.script.now.opts c.args.script.now.extra x (x ∷ []) c.args.run.now c.answer.new.run _ _ refl c.if-run.false)
    c.answer.ensures.steps

pub returns-clause-breaks : goal.returns-clause-breaks
returns-clause-breaks g c =
    let x = call (call_term c.args.call.now) in
    IfErr-weaker c.answer.result _ _
    (λ why halt. breaks_by (watcher g.W.Watch.content g.W.Watch.step g.W.Watch.left) (design_term c.args.script.now.design.now) c.args.script.now.opts c.args.script.now.extra x (x ∷ []) c.args.run.now _ _ why refl c.if-run.false halt)
    c.answer.ensures.halts

use Rattle.std.proofs.Common.{◌≡◌, ℕ, ◌+◌, ◌-◌, ◌∙◌, ◌++◌, [], ◌∷◌, refl, ap, sym, subst, arith}
use Rattle.svr_typed.specs.ClassTerm.{FlatTerm, flat_term}
use Rattle.svr_typed.specs.StmtTerm.{call, call_term, design_term}
use Rattle.svr_world.specs.World.{object_of}
use Rattle.svr_frame.specs.Frame.{frame_term}
use Rattle.svr_frame.specs.Making.{frame_of}
use Rattle.svr_frame_of.specs.Callable.{IsCallable, state_of}
use Rattle.svr_script.specs.Statement.{flat_of_var, times}
use Rattle.svr_run.specs.declared.stop.Stop.TheVariants.{NoMemory}
use Rattle.svr_run.specs.Telling.{sinks}
use Rattle.svr_run.specs.Watching.{watcher}
use Rattle.svr_run.specs.Reached.{IsBefore, IsNext}
use Rattle.svr_run.proofs.Written.{failed_as}
use Rattle.svr_run.proofs.Walking.{can_execute, next_of, before_first, before_row, breaks_first, breaks_row, breaks_by, breaks_as, goes_row, goes_nowhere, halts_here}
use Rattle.svr_run.proofs.Executed.{all_turns, next_turn}
use Rattle.svr_run.proofs.Naming.{next_named}
use Rattle.svr_run.proofs.Renewed.{first_frame}
use Rattle.svr_run.proofs.turns.repeat_call.Goals as goal

pub returns-then-count-eq0-clause-goes : goal.returns-then-count-eq0-clause-goes
returns-then-count-eq0-clause-goes g c =
    let wa = watcher g.W.Watch.content g.W.Watch.step g.W.Watch.left in
    let d = design_term c.args.script.now.design.now in
    let opts = c.args.script.now.opts in
    let extra = c.args.script.now.extra in
    let xs = call (call_term c.args.call.now) ∷ [] in
    let p = c.args.run.now in
    let s = sinks (g.K.Sink.written c.args.out.now) (g.K.Sink.faults c.args.out.now) (g.J.Sink.written c.args.journal.now) (g.J.Sink.faults c.args.journal.now) in
    let none : times c.args.count xs ≡ [] = ap (λ (k : ℕ). times k xs) c.if-count-eq0.true in
    goes_row wa d opts extra [] (times c.args.count xs) p p s s (sym none) (goes_nowhere wa d opts extra p s)

pub of_var-flat-requires-clause-named : goal.of_var-flat-requires-clause-named
of_var-flat-requires-clause-named g c =
    let wa = watcher g.W.Watch.content g.W.Watch.step g.W.Watch.left in
    let d = design_term c.args.script.now.design.now in
    let opts = c.args.script.now.opts in
    let extra = c.args.script.now.extra in
    let ct = call_term c.args.call.now in
    let xs = call ct ∷ [] in
    let n = c.args.count in
    let ys = times (n - (0 + 1)) xs in
    let p = c.args.run.now in
    let s = sinks (g.K.Sink.written c.args.out.now) (g.K.Sink.faults c.args.out.now) (g.J.Sink.written c.args.journal.now) (g.J.Sink.faults c.args.journal.now) in
    let split : times n xs ≡ xs ++ ys = all_turns n xs ∙ next_turn n 0 xs (omega (arith, c.if-count-eq0.false)) in
    let first : IsBefore wa d opts extra xs p s = before_first wa d opts extra xs ys p p s s (before_row wa d opts extra (times n xs) (xs ++ ys) p s split c.requires.before) in
    next_named wa d opts extra (call ct) p s (next_of wa d opts extra (call ct) xs p s refl c.requires.going first)

pub make_frame-requires : goal.make_frame-requires
make_frame-requires g c =
    let wa = watcher g.W.Watch.content g.W.Watch.step g.W.Watch.left in
    let d = design_term c.args.script.now.design.now in
    let opts = c.args.script.now.opts in
    let extra = c.args.script.now.extra in
    let ct = call_term c.args.call.now in
    let xs = call ct ∷ [] in
    let n = c.args.count in
    let ys = times (n - (0 + 1)) xs in
    let p = c.args.run.now in
    let s = sinks (g.K.Sink.written c.args.out.now) (g.K.Sink.faults c.args.out.now) (g.J.Sink.written c.args.journal.now) (g.J.Sink.faults c.args.journal.now) in
    let split : times n xs ≡ xs ++ ys = all_turns n xs ∙ next_turn n 0 xs (omega (arith, c.if-count-eq0.false)) in
    let first : IsBefore wa d opts extra xs p s = before_first wa d opts extra xs ys p p s s (before_row wa d opts extra (times n xs) (xs ++ ys) p s split c.requires.before) in
    let next : IsNext wa d opts extra (call ct) p s = next_of wa d opts extra (call ct) xs p s refl c.requires.going first in
    let flat : flat_term c.of_var-flat.result.now ≡ flat_of_var d ct.object = c.of_var-flat.ensures in
    record {
      callable = subst (λ (x : FlatTerm). IsCallable x d.enums (object_of p.progress.world ct.object) p.progress.world.script ct) (sym flat) (can_execute wa d opts extra c.requires.can_run (call ct) p s c.requires.going next).1;
    }

pub take_turns-told-requires-clause-framed : goal.take_turns-told-requires-clause-framed
take_turns-told-requires-clause-framed g c =
    let d = design_term c.args.script.now.design.now in
    let ct = call_term c.args.call.now in
    let p = c.args.run.now in
    let flat : flat_term c.of_var-flat.result.now ≡ flat_of_var d ct.object = c.of_var-flat.ensures in
    first_frame d ct (frame_term c.in_ok-frame.frame) p.progress.world
    (c.in_ok-frame.ensures.frame ∙ ap (λ (x : FlatTerm). frame_of x d.enums (state_of p.progress.world ct.object) (object_of p.progress.world ct.object).rand_modes (object_of p.progress.world ct.object).block_modes ct) flat)

pub take_turns-told-requires-clause-kept : goal.take_turns-told-requires-clause-kept
take_turns-told-requires-clause-kept g c = c.new-kept.ensures (frame_term c.in_ok-frame.frame)

pub returns-in_err-frame-clause-breaks : goal.returns-in_err-frame-clause-breaks
returns-in_err-frame-clause-breaks g c =
    let wa = watcher g.W.Watch.content g.W.Watch.step g.W.Watch.left in
    let d = design_term c.args.script.now.design.now in
    let opts = c.args.script.now.opts in
    let extra = c.args.script.now.extra in
    let ct = call_term c.args.call.now in
    let xs = call ct ∷ [] in
    let n = c.args.count in
    let ys = times (n - (0 + 1)) xs in
    let p = c.args.run.now in
    let s = sinks (g.K.Sink.written c.args.out.now) (g.K.Sink.faults c.args.out.now) (g.J.Sink.written c.args.journal.now) (g.J.Sink.faults c.args.journal.now) in
    let split : times n xs ≡ xs ++ ys = all_turns n xs ∙ next_turn n 0 xs (omega (arith, c.if-count-eq0.false)) in
    failed_as c.from_residual.result _ _ c.from_residual.ensures.1
    (λ why e. breaks_as wa d opts extra (times n xs) p s s why NoMemory e
    (breaks_row wa d opts extra (xs ++ ys) (times n xs) p s s NoMemory (sym split)
    (breaks_first wa d opts extra xs ys p p s s NoMemory s (breaks_by wa d opts extra (call ct) xs p s s NoMemory refl c.requires.going (halts_here wa d opts extra (call ct) p s)))))

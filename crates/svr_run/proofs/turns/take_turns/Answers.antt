use Rattle.std.proofs.Common.{◌≡◌, ◌+◌, ◌-◌, ◌++◌, [], ◌∷◌, sym, arith}
use Rattle.svr_typed.specs.StmtTerm.{call, call_term, design_term}
use Rattle.svr_script.specs.Statement.{times}
use Rattle.svr_run.specs.Telling.{sinks}
use Rattle.svr_run.specs.Watching.{watcher}
use Rattle.svr_run.specs.Reached.{Goes}
use Rattle.svr_run.proofs.Written.{failed_as}
use Rattle.svr_run.proofs.Walking.{before_first, before_next, goes_then, breaks_then, breaks_first, before_row, goes_row, breaks_row, breaks_as, goes_nowhere}
use Rattle.svr_run.proofs.Executed.{all_turns, next_turn, no_turn}
use Rattle.svr_run.proofs.turns.take_turns.Goals as goal

pub loop-time-init : goal.loop-time-init
loop-time-init g c =
    let wa = watcher g.W.Watch.content g.W.Watch.step g.W.Watch.left in
    let d = design_term c.args.script.now.design.now in
    let opts = c.args.script.now.opts in
    let extra = c.args.script.now.extra in
    let xs = call (call_term c.args.call.now) ∷ [] in
    let n = c.args.count in
    let p = c.args.run.now in
    let s = sinks (g.K.Sink.written c.args.out.now) (g.K.Sink.faults c.args.out.now) (g.J.Sink.written c.args.journal.now) (g.J.Sink.faults c.args.journal.now) in
    let turns : times n xs ≡ times (n - 0) xs = all_turns n xs in
    record {
      framed = c.requires.framed;
      kept = c.requires.kept;
      before = before_row wa d opts extra (times n xs) (times (n - 0) xs) p s turns c.requires.before;
      goes = λ q after way. goes_row wa d opts extra (times (n - 0) xs) (times n xs) p q s after (sym turns) way;
      breaks = λ why after halt. breaks_row wa d opts extra (times (n - 0) xs) (times n xs) p s after why (sym turns) halt;
    }

pub one_turn-requires-clause-before : goal.one_turn-requires-clause-before
one_turn-requires-clause-before g c =
    let wa = watcher g.W.Watch.content g.W.Watch.step g.W.Watch.left in
    let d = design_term c.args.script.now.design.now in
    let opts = c.args.script.now.opts in
    let extra = c.args.script.now.extra in
    let xs = call (call_term c.args.call.now) ∷ [] in
    let n = c.args.count in
    let i = c.loop-time._time in
    let p = c.loop-time.run in
    let s = sinks (g.K.Sink.written c.loop-time.out) (g.K.Sink.faults c.loop-time.out) (g.J.Sink.written c.loop-time.journal) (g.J.Sink.faults c.loop-time.journal) in
    let ys = times (n - (i + 1)) xs in
    let split : times (n - i) xs ≡ xs ++ ys = next_turn n i xs c.loop-time-test.true in
    before_first wa d opts extra xs ys p p s s (before_row wa d opts extra (times (n - i) xs) (xs ++ ys) p s split c.loop-time.invariant.before)

pub loop-time-preserved : goal.loop-time-preserved
loop-time-preserved g c =
    let wa = watcher g.W.Watch.content g.W.Watch.step g.W.Watch.left in
    let d = design_term c.args.script.now.design.now in
    let opts = c.args.script.now.opts in
    let extra = c.args.script.now.extra in
    let xs = call (call_term c.args.call.now) ∷ [] in
    let n = c.args.count in
    let i = c.loop-time._time in
    let p = c.loop-time.run in
    let s = sinks (g.K.Sink.written c.loop-time.out) (g.K.Sink.faults c.loop-time.out) (g.J.Sink.written c.loop-time.journal) (g.J.Sink.faults c.loop-time.journal) in
    let q = c.one_turn.new.run in
    let u = sinks (g.K.Sink.written c.one_turn.new.out) (g.K.Sink.faults c.one_turn.new.out) (g.J.Sink.written c.one_turn.new.journal) (g.J.Sink.faults c.one_turn.new.journal) in
    let ys = times (n - (i + 1)) xs in
    let split : times (n - i) xs ≡ xs ++ ys = next_turn n i xs c.loop-time-test.true in
    let turn : Goes wa d opts extra xs p s q u = c.in_ok-one_turn.ensures.goes in
    record {
      framed = c.in_ok-one_turn.ensures.framed;
      kept = c.in_ok-one_turn.ensures.kept;
      before = before_next wa d opts extra xs ys p q s u (before_row wa d opts extra (times (n - i) xs) (xs ++ ys) p s split c.loop-time.invariant.before) turn;
      goes = λ r after way. c.loop-time.invariant.goes r after (goes_row wa d opts extra (xs ++ ys) (times (n - i) xs) p r s after (sym split) (goes_then wa d opts extra xs ys p q s u r after turn way));
      breaks = λ why after halt. c.loop-time.invariant.breaks why after (breaks_row wa d opts extra (xs ++ ys) (times (n - i) xs) p s after why (sym split) (breaks_then wa d opts extra xs ys p q s u why after turn halt));
    }

pub returns-in_err-one_turn-clause-breaks : goal.returns-in_err-one_turn-clause-breaks
returns-in_err-one_turn-clause-breaks g c =
    let wa = watcher g.W.Watch.content g.W.Watch.step g.W.Watch.left in
    let d = design_term c.args.script.now.design.now in
    let opts = c.args.script.now.opts in
    let extra = c.args.script.now.extra in
    let xs = call (call_term c.args.call.now) ∷ [] in
    let n = c.args.count in
    let i = c.loop-time._time in
    let p = c.loop-time.run in
    let s = sinks (g.K.Sink.written c.loop-time.out) (g.K.Sink.faults c.loop-time.out) (g.J.Sink.written c.loop-time.journal) (g.J.Sink.faults c.loop-time.journal) in
    let u = sinks (g.K.Sink.written c.one_turn.new.out) (g.K.Sink.faults c.one_turn.new.out) (g.J.Sink.written c.one_turn.new.journal) (g.J.Sink.faults c.one_turn.new.journal) in
    let a = sinks (g.K.Sink.written c.args.out.now) (g.K.Sink.faults c.args.out.now) (g.J.Sink.written c.args.journal.now) (g.J.Sink.faults c.args.journal.now) in
    let ys = times (n - (i + 1)) xs in
    let split : times (n - i) xs ≡ xs ++ ys = next_turn n i xs c.loop-time-test.true in
    failed_as c.from_residual.result _ _ c.from_residual.ensures.1
    (λ why e. breaks_as wa d opts extra (times n xs) c.args.run.now a u why _ e
    (c.loop-time.invariant.breaks _ u
    (breaks_row wa d opts extra (xs ++ ys) (times (n - i) xs) p s u _ (sym split)
    (breaks_first wa d opts extra xs ys p p s s _ u c.in_err-one_turn.ensures.breaks))))

pub returns-clause-goes : goal.returns-clause-goes
returns-clause-goes g c =
    let wa = watcher g.W.Watch.content g.W.Watch.step g.W.Watch.left in
    let d = design_term c.args.script.now.design.now in
    let opts = c.args.script.now.opts in
    let extra = c.args.script.now.extra in
    let xs = call (call_term c.args.call.now) ∷ [] in
    let n = c.args.count in
    let i = c.loop-time._time in
    let p = c.loop-time.run in
    let s = sinks (g.K.Sink.written c.loop-time.out) (g.K.Sink.faults c.loop-time.out) (g.J.Sink.written c.loop-time.journal) (g.J.Sink.faults c.loop-time.journal) in
    let none : times (n - i) xs ≡ [] = no_turn n i xs (omega arith) in
    c.loop-time.invariant.goes p s (goes_row wa d opts extra [] (times (n - i) xs) p p s s (sym none) (goes_nowhere wa d opts extra p s))

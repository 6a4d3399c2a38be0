use Rattle.std.proofs.Common.{◌≡◌, ◌+◌, ◌-◌, ◌<◌, ◌++◌, [], ◌∷◌, ℕ, List, length, drop, sym, ◌∙◌, ap, arith, rules}
use Rattle.std.proofs.lemmas.List.{at_drop_all}
use Rattle.std.proofs.lemmas.Result.{on_ok_weaker, IfErr-weaker}
use Rattle.svr_typed.specs.declared.stmt.TStmt.{TStmt, the_lemmas}
use Rattle.svr_typed.specs.StmtTerm.{StmtTerm, call, call_term, design_term, stmt_term, stmt_terms}
use Rattle.svr_script.specs.Statement.{times, in_order, all_in_order}
use Rattle.svr_run.specs.Telling.{sinks}
use Rattle.svr_run.specs.Watching.{watcher}
use Rattle.svr_run.specs.Reached.{IsBefore, Goes}
use Rattle.svr_run.proofs.Written.{failed_as}
use Rattle.svr_run.proofs.Walking.{before_first, before_next, goes_then, breaks_then, breaks_first, before_row, goes_row, breaks_row, breaks_as, goes_nowhere}
use Rattle.svr_run.proofs.Executed.{call_order, list_order, repeat_order, all_turns, next_turn, no_turn, front_of}
use Rattle.svr_run.proofs.walk.+walk.Goals as goal

-- ---- a call

pub walk_one-repeat_call-requires-clause-before : goal.walk_one-repeat_call-requires-clause-before
walk_one-repeat_call-requires-clause-before g t c =
    let wa = watcher g.W.Watch.content g.W.Watch.step g.W.Watch.left in
    let d = design_term c.args.script.now.design.now in
    let opts = c.args.script.now.opts in
    let extra = c.args.script.now.extra in
    let p = c.args.run.now in
    let s = sinks (g.K.Sink.written c.args.out.now) (g.K.Sink.faults c.args.out.now) (g.J.Sink.written c.args.journal.now) (g.J.Sink.faults c.args.journal.now) in
    let xs = in_order (stmt_term c.args.stmt.now) in
    let ys = times 1 (call (call_term c.in-Call.call) ∷ []) in
    let same : xs ≡ ys = ap (λ (y : TStmt). in_order (stmt_term y)) c.in-Call.is ∙ call_order c.in-Call.call in
    before_row wa d opts extra xs ys p s same c.requires.before

pub walk_one-returns-in-Call-clause-goes : goal.walk_one-returns-in-Call-clause-goes
walk_one-returns-in-Call-clause-goes g t c =
    let wa = watcher g.W.Watch.content g.W.Watch.step g.W.Watch.left in
    let d = design_term c.args.script.now.design.now in
    let opts = c.args.script.now.opts in
    let extra = c.args.script.now.extra in
    let p = c.args.run.now in
    let xs = in_order (stmt_term c.args.stmt.now) in
    let ys = times 1 (call (call_term c.in-Call.call) ∷ []) in
    let same : xs ≡ ys = ap (λ (y : TStmt). in_order (stmt_term y)) c.in-Call.is ∙ call_order c.in-Call.call in
    on_ok_weaker c.repeat_call.result (goes_row wa d opts extra ys xs p c.repeat_call.new.run _ _ (sym same)) c.repeat_call.ensures.goes

pub walk_one-returns-in-Call-clause-breaks : goal.walk_one-returns-in-Call-clause-breaks
walk_one-returns-in-Call-clause-breaks g t c =
    let wa = watcher g.W.Watch.content g.W.Watch.step g.W.Watch.left in
    let d = design_term c.args.script.now.design.now in
    let opts = c.args.script.now.opts in
    let extra = c.args.script.now.extra in
    let p = c.args.run.now in
    let xs = in_order (stmt_term c.args.stmt.now) in
    let ys = times 1 (call (call_term c.in-Call.call) ∷ []) in
    let same : xs ≡ ys = ap (λ (y : TStmt). in_order (stmt_term y)) c.in-Call.is ∙ call_order c.in-Call.call in
    IfErr-weaker c.repeat_call.result _ _ (λ why halt. breaks_row wa d opts extra ys xs p _ _ why (sym same) halt) c.repeat_call.ensures.breaks

-- ---- a call that is repeated

pub walk_one-repeat_call-requires-in-Some-clause-before : goal.walk_one-repeat_call-requires-in-Some-clause-before
walk_one-repeat_call-requires-in-Some-clause-before g t c =
    let wa = watcher g.W.Watch.content g.W.Watch.step g.W.Watch.left in
    let d = design_term c.args.script.now.design.now in
    let opts = c.args.script.now.opts in
    let extra = c.args.script.now.extra in
    let p = c.args.run.now in
    let s = sinks (g.K.Sink.written c.args.out.now) (g.K.Sink.faults c.args.out.now) (g.J.Sink.written c.args.journal.now) (g.J.Sink.faults c.args.journal.now) in
    let n = c.in-Repeat.count in
    let xs = in_order (stmt_term c.args.stmt.now) in
    let ys = times n (call (call_term c.in-Some.call.now) ∷ []) in
    let same : xs ≡ ys = ap (λ (x : TStmt). in_order (stmt_term x)) c.in-Repeat.is ∙ repeat_order n c.in-Repeat.body ∙ ap (λ (x : TStmt). times n (in_order (stmt_term x))) (sym c.get-inside.ensures) ∙ ap (λ (x : StmtTerm). times n (in_order x)) c.in-Some.ensures in
    before_row wa d opts extra xs ys p s same c.requires.before

pub walk_one-returns-in-Some-clause-goes : goal.walk_one-returns-in-Some-clause-goes
walk_one-returns-in-Some-clause-goes g t c =
    let wa = watcher g.W.Watch.content g.W.Watch.step g.W.Watch.left in
    let d = design_term c.args.script.now.design.now in
    let opts = c.args.script.now.opts in
    let extra = c.args.script.now.extra in
    let p = c.args.run.now in
    let n = c.in-Repeat.count in
    let xs = in_order (stmt_term c.args.stmt.now) in
    let ys = times n (call (call_term c.in-Some.call.now) ∷ []) in
    let same : xs ≡ ys = ap (λ (x : TStmt). in_order (stmt_term x)) c.in-Repeat.is ∙ repeat_order n c.in-Repeat.body ∙ ap (λ (x : TStmt). times n (in_order (stmt_term x))) (sym c.get-inside.ensures) ∙ ap (λ (x : StmtTerm). times n (in_order x)) c.in-Some.ensures in
    on_ok_weaker c.repeat_call-in-Some.result (goes_row wa d opts extra ys xs p c.repeat_call-in-Some.new.run _ _ (sym same)) c.repeat_call-in-Some.ensures.goes

pub walk_one-returns-in-Some-clause-breaks : goal.walk_one-returns-in-Some-clause-breaks
walk_one-returns-in-Some-clause-breaks g t c =
    let wa = watcher g.W.Watch.content g.W.Watch.step g.W.Watch.left in
    let d = design_term c.args.script.now.design.now in
    let opts = c.args.script.now.opts in
    let extra = c.args.script.now.extra in
    let p = c.args.run.now in
    let n = c.in-Repeat.count in
    let xs = in_order (stmt_term c.args.stmt.now) in
    let ys = times n (call (call_term c.in-Some.call.now) ∷ []) in
    let same : xs ≡ ys = ap (λ (x : TStmt). in_order (stmt_term x)) c.in-Repeat.is ∙ repeat_order n c.in-Repeat.body ∙ ap (λ (x : TStmt). times n (in_order (stmt_term x))) (sym c.get-inside.ensures) ∙ ap (λ (x : StmtTerm). times n (in_order x)) c.in-Some.ensures in
    IfErr-weaker c.repeat_call-in-Some.result _ _ (λ why halt. breaks_row wa d opts extra ys xs p _ _ why (sym same) halt) c.repeat_call-in-Some.ensures.breaks

-- ---- `repeat`

pub walk_one-loop-turn-init : goal.walk_one-loop-turn-init
walk_one-loop-turn-init g t c =
    let wa = watcher g.W.Watch.content g.W.Watch.step g.W.Watch.left in
    let d = design_term c.args.script.now.design.now in
    let opts = c.args.script.now.opts in
    let extra = c.args.script.now.extra in
    let xs = in_order (stmt_term c.get-inside.result.now) in
    let n = c.in-Repeat.count in
    let p = c.args.run.now in
    let s = sinks (g.K.Sink.written c.args.out.now) (g.K.Sink.faults c.args.out.now) (g.J.Sink.written c.args.journal.now) (g.J.Sink.faults c.args.journal.now) in
    let here : in_order (stmt_term c.args.stmt.now) ≡ times n xs = ap (λ (x : TStmt). in_order (stmt_term x)) c.in-Repeat.is ∙ repeat_order n c.in-Repeat.body ∙ ap (λ (x : TStmt). times n (in_order (stmt_term x))) (sym c.get-inside.ensures) in
    let turns : times n xs ≡ times (n - 0) xs = all_turns n xs in
    record {
      before = before_row wa d opts extra (in_order (stmt_term c.args.stmt.now)) (times (n - 0) xs) p s (here ∙ turns) c.requires.before;
      goes = λ q after way. goes_row wa d opts extra (times (n - 0) xs) (times n xs) p q s after (sym turns) way;
      breaks = λ why after halt. breaks_row wa d opts extra (times (n - 0) xs) (times n xs) p s after why (sym turns) halt;
    }

pub walk_one-walk_one-requires : goal.walk_one-walk_one-requires
walk_one-walk_one-requires g t c =
    let wa = watcher g.W.Watch.content g.W.Watch.step g.W.Watch.left in
    let d = design_term c.args.script.now.design.now in
    let opts = c.args.script.now.opts in
    let extra = c.args.script.now.extra in
    let xs = in_order (stmt_term c.get-inside.result.now) in
    let n = c.in-Repeat.count in
    let i = c.loop-turn._turn in
    let p = c.loop-turn.run in
    let s = sinks (g.K.Sink.written c.loop-turn.out) (g.K.Sink.faults c.loop-turn.out) (g.J.Sink.written c.loop-turn.journal) (g.J.Sink.faults c.loop-turn.journal) in
    let ys = times (n - (i + 1)) xs in
    let split : times (n - i) xs ≡ xs ++ ys = next_turn n i xs c.loop-turn-test.true in
    let first : IsBefore wa d opts extra xs p s = before_first wa d opts extra xs ys p p s s (before_row wa d opts extra (times (n - i) xs) (xs ++ ys) p s split c.loop-turn.invariant.before) in
    λ κs lives. (search (rules, the_lemmas), (lives.0, (lives.1.0, (lives.1.1, (c.requires.classes, (c.requires.allowed, (c.requires.can_run, first)))))))

pub walk_one-loop-turn-preserved : goal.walk_one-loop-turn-preserved
walk_one-loop-turn-preserved g t c =
    let wa = watcher g.W.Watch.content g.W.Watch.step g.W.Watch.left in
    let d = design_term c.args.script.now.design.now in
    let opts = c.args.script.now.opts in
    let extra = c.args.script.now.extra in
    let xs = in_order (stmt_term c.get-inside.result.now) in
    let n = c.in-Repeat.count in
    let i = c.loop-turn._turn in
    let p = c.loop-turn.run in
    let q = c.walk_one.new.run in
    let s = sinks (g.K.Sink.written c.loop-turn.out) (g.K.Sink.faults c.loop-turn.out) (g.J.Sink.written c.loop-turn.journal) (g.J.Sink.faults c.loop-turn.journal) in
    let u = sinks (g.K.Sink.written c.walk_one.new.out) (g.K.Sink.faults c.walk_one.new.out) (g.J.Sink.written c.walk_one.new.journal) (g.J.Sink.faults c.walk_one.new.journal) in
    let ys = times (n - (i + 1)) xs in
    let split : times (n - i) xs ≡ xs ++ ys = next_turn n i xs c.loop-turn-test.true in
    let turn : Goes wa d opts extra xs p s q u = c.in_ok-walk_one-in-Repeat.ensures.goes in
    record {
      before = before_next wa d opts extra xs ys p q s u (before_row wa d opts extra (times (n - i) xs) (xs ++ ys) p s split c.loop-turn.invariant.before) turn;
      goes = λ r after way. c.loop-turn.invariant.goes r after (goes_row wa d opts extra (xs ++ ys) (times (n - i) xs) p r s after (sym split) (goes_then wa d opts extra xs ys p q s u r after turn way));
      breaks = λ why after halt. c.loop-turn.invariant.breaks why after (breaks_row wa d opts extra (xs ++ ys) (times (n - i) xs) p s after why (sym split) (breaks_then wa d opts extra xs ys p q s u why after turn halt));
    }

pub walk_one-returns-in_err-walk_one-in-Repeat-clause-breaks : goal.walk_one-returns-in_err-walk_one-in-Repeat-clause-breaks
walk_one-returns-in_err-walk_one-in-Repeat-clause-breaks g t c =
    let wa = watcher g.W.Watch.content g.W.Watch.step g.W.Watch.left in
    let d = design_term c.args.script.now.design.now in
    let opts = c.args.script.now.opts in
    let extra = c.args.script.now.extra in
    let xs = in_order (stmt_term c.get-inside.result.now) in
    let n = c.in-Repeat.count in
    let i = c.loop-turn._turn in
    let p = c.loop-turn.run in
    let s = sinks (g.K.Sink.written c.loop-turn.out) (g.K.Sink.faults c.loop-turn.out) (g.J.Sink.written c.loop-turn.journal) (g.J.Sink.faults c.loop-turn.journal) in
    let u = sinks (g.K.Sink.written c.walk_one.new.out) (g.K.Sink.faults c.walk_one.new.out) (g.J.Sink.written c.walk_one.new.journal) (g.J.Sink.faults c.walk_one.new.journal) in
    let a = sinks (g.K.Sink.written c.args.out.now) (g.K.Sink.faults c.args.out.now) (g.J.Sink.written c.args.journal.now) (g.J.Sink.faults c.args.journal.now) in
    let ys = times (n - (i + 1)) xs in
    let split : times (n - i) xs ≡ xs ++ ys = next_turn n i xs c.loop-turn-test.true in
    let here : in_order (stmt_term c.args.stmt.now) ≡ times n xs = ap (λ (x : TStmt). in_order (stmt_term x)) c.in-Repeat.is ∙ repeat_order n c.in-Repeat.body ∙ ap (λ (x : TStmt). times n (in_order (stmt_term x))) (sym c.get-inside.ensures) in
    failed_as c.from_residual.result _ _ c.from_residual.ensures.1
    (λ why e. breaks_as wa d opts extra (in_order (stmt_term c.args.stmt.now)) c.args.run.now a u why _ e
    (breaks_row wa d opts extra (times n xs) (in_order (stmt_term c.args.stmt.now)) c.args.run.now a u _ (sym here)
    (c.loop-turn.invariant.breaks _ u
    (breaks_row wa d opts extra (xs ++ ys) (times (n - i) xs) p s u _ (sym split)
    (breaks_first wa d opts extra xs ys p p s s _ u c.in_err-walk_one-in-Repeat.ensures.breaks)))))

pub walk_one-returns-after-loop-turn-clause-goes : goal.walk_one-returns-after-loop-turn-clause-goes
walk_one-returns-after-loop-turn-clause-goes g t c =
    let wa = watcher g.W.Watch.content g.W.Watch.step g.W.Watch.left in
    let d = design_term c.args.script.now.design.now in
    let opts = c.args.script.now.opts in
    let extra = c.args.script.now.extra in
    let xs = in_order (stmt_term c.get-inside.result.now) in
    let n = c.in-Repeat.count in
    let i = c.loop-turn._turn in
    let p = c.loop-turn.run in
    let s = sinks (g.K.Sink.written c.loop-turn.out) (g.K.Sink.faults c.loop-turn.out) (g.J.Sink.written c.loop-turn.journal) (g.J.Sink.faults c.loop-turn.journal) in
    let a = sinks (g.K.Sink.written c.args.out.now) (g.K.Sink.faults c.args.out.now) (g.J.Sink.written c.args.journal.now) (g.J.Sink.faults c.args.journal.now) in
    let none : times (n - i) xs ≡ [] = no_turn n i xs (omega arith) in
    let here : in_order (stmt_term c.args.stmt.now) ≡ times n xs = ap (λ (x : TStmt). in_order (stmt_term x)) c.in-Repeat.is ∙ repeat_order n c.in-Repeat.body ∙ ap (λ (x : TStmt). times n (in_order (stmt_term x))) (sym c.get-inside.ensures) in
    goes_row wa d opts extra (times n xs) (in_order (stmt_term c.args.stmt.now)) c.args.run.now p a s (sym here)
    (c.loop-turn.invariant.goes p s (goes_row wa d opts extra [] (times (n - i) xs) p p s s (sym none) (goes_nowhere wa d opts extra p s)))

-- ---- statements in a row

pub walk_one-walk_all-requires : goal.walk_one-walk_all-requires
walk_one-walk_all-requires g t c =
    let wa = watcher g.W.Watch.content g.W.Watch.step g.W.Watch.left in
    let d = design_term c.args.script.now.design.now in
    let opts = c.args.script.now.opts in
    let extra = c.args.script.now.extra in
    let p = c.args.run.now in
    let s = sinks (g.K.Sink.written c.args.out.now) (g.K.Sink.faults c.args.out.now) (g.J.Sink.written c.args.journal.now) (g.J.Sink.faults c.args.journal.now) in
    let xs = in_order (stmt_term c.args.stmt.now) in
    let ys = all_in_order (stmt_terms c.as_slice.result.now) in
    let here : xs ≡ all_in_order (stmt_terms c.in-List.stmts) = ap (λ (x : TStmt). in_order (stmt_term x)) c.in-List.is ∙ list_order c.in-List.stmts in
    let inside : ys ≡ all_in_order (stmt_terms c.in-List.stmts) = ap (λ (ss : List TStmt). all_in_order (stmt_terms ss)) c.as_slice.ensures in
    let before : IsBefore wa d opts extra ys p s = before_row wa d opts extra xs ys p s (here ∙ sym inside) c.requires.before in
    λ κs lives. (search (rules, the_lemmas), (lives.0, (lives.1.0, (lives.1.1, (c.requires.classes, (c.requires.allowed, (c.requires.can_run, before)))))))

pub walk_all-walk_one-requires : goal.walk_all-walk_one-requires
walk_all-walk_one-requires g t c =
    let wa = watcher g.W.Watch.content g.W.Watch.step g.W.Watch.left in
    let d = design_term c.args.script.now.design.now in
    let opts = c.args.script.now.opts in
    let extra = c.args.script.now.extra in
    let i = c.loop-stmt.stmt-index in
    let item = c.stmt-item.result in
    let rest = drop (i + 1) c.args.stmts.now in
    let xs = in_order (stmt_term item) in
    let ys = all_in_order (stmt_terms rest) in
    let p = c.loop-stmt.run in
    let s = sinks (g.K.Sink.written c.loop-stmt.out) (g.K.Sink.faults c.loop-stmt.out) (g.J.Sink.written c.loop-stmt.journal) (g.J.Sink.faults c.loop-stmt.journal) in
    let less : i < length c.args.stmts.now = omega arith in
    let row : all_in_order (stmt_terms (drop i c.args.stmts.now)) ≡ xs ++ ys = ap (λ (ss : List TStmt). all_in_order (stmt_terms ss)) (front_of c.args.stmts.now i item less c.stmt-item.is) in
    let first : IsBefore wa d opts extra xs p s = before_first wa d opts extra xs ys p p s s (before_row wa d opts extra (all_in_order (stmt_terms (drop i c.args.stmts.now))) (xs ++ ys) p s row c.loop-stmt.invariant.before) in
    λ κs lives. (search (rules, the_lemmas), (lives.0, (lives.1.0, (lives.1.1, (c.requires.classes, (c.requires.allowed, (c.requires.can_run, first)))))))

pub walk_all-loop-stmt-preserved : goal.walk_all-loop-stmt-preserved
walk_all-loop-stmt-preserved g t c =
    let wa = watcher g.W.Watch.content g.W.Watch.step g.W.Watch.left in
    let d = design_term c.args.script.now.design.now in
    let opts = c.args.script.now.opts in
    let extra = c.args.script.now.extra in
    let i = c.loop-stmt.stmt-index in
    let item = c.stmt-item.result in
    let rest = drop (i + 1) c.args.stmts.now in
    let xs = in_order (stmt_term item) in
    let ys = all_in_order (stmt_terms rest) in
    let p = c.loop-stmt.run in
    let q = c.walk_one.new.run in
    let s = sinks (g.K.Sink.written c.loop-stmt.out) (g.K.Sink.faults c.loop-stmt.out) (g.J.Sink.written c.loop-stmt.journal) (g.J.Sink.faults c.loop-stmt.journal) in
    let u = sinks (g.K.Sink.written c.walk_one.new.out) (g.K.Sink.faults c.walk_one.new.out) (g.J.Sink.written c.walk_one.new.journal) (g.J.Sink.faults c.walk_one.new.journal) in
    let less : i < length c.args.stmts.now = omega arith in
    let row : all_in_order (stmt_terms (drop i c.args.stmts.now)) ≡ xs ++ ys = ap (λ (ss : List TStmt). all_in_order (stmt_terms ss)) (front_of c.args.stmts.now i item less c.stmt-item.is) in
    let zs = all_in_order (stmt_terms (drop i c.args.stmts.now)) in
    let turn : Goes wa d opts extra xs p s q u = c.in_ok-walk_one.ensures.goes in
    record {
      before = before_next wa d opts extra xs ys p q s u (before_row wa d opts extra zs (xs ++ ys) p s row c.loop-stmt.invariant.before) turn;
      goes = λ r after way. c.loop-stmt.invariant.goes r after (goes_row wa d opts extra (xs ++ ys) zs p r s after (sym row) (goes_then wa d opts extra xs ys p q s u r after turn way));
      breaks = λ why after halt. c.loop-stmt.invariant.breaks why after (breaks_row wa d opts extra (xs ++ ys) zs p s after why (sym row) (breaks_then wa d opts extra xs ys p q s u why after turn halt));
    }

pub walk_all-returns-in_err-walk_one-clause-breaks : goal.walk_all-returns-in_err-walk_one-clause-breaks
walk_all-returns-in_err-walk_one-clause-breaks g t c =
    let wa = watcher g.W.Watch.content g.W.Watch.step g.W.Watch.left in
    let d = design_term c.args.script.now.design.now in
    let opts = c.args.script.now.opts in
    let extra = c.args.script.now.extra in
    let i = c.loop-stmt.stmt-index in
    let item = c.stmt-item.result in
    let rest = drop (i + 1) c.args.stmts.now in
    let xs = in_order (stmt_term item) in
    let ys = all_in_order (stmt_terms rest) in
    let p = c.loop-stmt.run in
    let s = sinks (g.K.Sink.written c.loop-stmt.out) (g.K.Sink.faults c.loop-stmt.out) (g.J.Sink.written c.loop-stmt.journal) (g.J.Sink.faults c.loop-stmt.journal) in
    let u = sinks (g.K.Sink.written c.walk_one.new.out) (g.K.Sink.faults c.walk_one.new.out) (g.J.Sink.written c.walk_one.new.journal) (g.J.Sink.faults c.walk_one.new.journal) in
    let a = sinks (g.K.Sink.written c.args.out.now) (g.K.Sink.faults c.args.out.now) (g.J.Sink.written c.args.journal.now) (g.J.Sink.faults c.args.journal.now) in
    let less : i < length c.args.stmts.now = omega arith in
    let row : all_in_order (stmt_terms (drop i c.args.stmts.now)) ≡ xs ++ ys = ap (λ (ss : List TStmt). all_in_order (stmt_terms ss)) (front_of c.args.stmts.now i item less c.stmt-item.is) in
    failed_as c.from_residual.result _ _ c.from_residual.ensures.1
    (λ why e. breaks_as wa d opts extra (all_in_order (stmt_terms c.args.stmts.now)) c.args.run.now a u why _ e
    (c.loop-stmt.invariant.breaks _ u
    (breaks_row wa d opts extra (xs ++ ys) (all_in_order (stmt_terms (drop i c.args.stmts.now))) p s u _ (sym row)
    (breaks_first wa d opts extra xs ys p p s s _ u c.in_err-walk_one.ensures.breaks))))

pub walk_all-returns-clause-goes : goal.walk_all-returns-clause-goes
walk_all-returns-clause-goes g t c =
    let wa = watcher g.W.Watch.content g.W.Watch.step g.W.Watch.left in
    let d = design_term c.args.script.now.design.now in
    let opts = c.args.script.now.opts in
    let extra = c.args.script.now.extra in
    let i = c.loop-stmt.stmt-index in
    let p = c.loop-stmt.run in
    let s = sinks (g.K.Sink.written c.loop-stmt.out) (g.K.Sink.faults c.loop-stmt.out) (g.J.Sink.written c.loop-stmt.journal) (g.J.Sink.faults c.loop-stmt.journal) in
    let zs = all_in_order (stmt_terms (drop i c.args.stmts.now)) in
    let none : zs ≡ [] = at_drop_all (λ (ss : List TStmt). all_in_order (stmt_terms ss)) c.args.stmts.now i (omega arith) in
    c.loop-stmt.invariant.goes p s (goes_row wa d opts extra [] zs p p s s (sym none) (goes_nowhere wa d opts extra p s))

use Rattle.std.proofs.Common.{List, Some, sym, subst, ap, ◌≡◌}
use Rattle.svr_typed.specs.declared.stmt.TStmt.{TStmt}
use Rattle.svr_typed.specs.StmtTerm.{design_term, stmt_terms}
use Rattle.svr_script.specs.Statement.{all_in_order}
use Rattle.svr_script.specs.Run.{statements}
use Rattle.svr_run.specs.declared.run.End.{End}
use Rattle.svr_run.specs.declared.watched.Watched.{Watched}
use Rattle.svr_run.specs.Telling.{sinks}
use Rattle.svr_run.specs.Watching.{taken, watcher}
use Rattle.svr_run.specs.Ends.{Watches}
use Rattle.svr_run.proofs.Written.{failed_as}
use Rattle.svr_run.proofs.Walking.{no_run, starts, before_row, goes_row, breaks_row, breaks_as, run_ends, run_stops}
use Rattle.svr_run.proofs.run.run_with.Goals as goal

pub returns-in_err-progress-clause-stops : goal.returns-in_err-progress-clause-stops
returns-in_err-progress-clause-stops g c =
    failed_as c.from_residual.result _ _ c.from_residual.ensures.1
    (λ why e. no_run (design_term c.args.script.now.design.now) c.args.script.now.opts c.args.script.now.extra _ why e)

pub walk_all-requires-clause-before : goal.walk_all-requires-clause-before
walk_all-requires-clause-before g c =
    let wa = watcher g.W.Watch.content g.W.Watch.step g.W.Watch.left in
    let d = design_term c.args.script.now.design.now in
    let opts = c.args.script.now.opts in
    let extra = c.args.script.now.extra in
    let p : Watched g.row.W.Denot = record { progress = c.in_ok-progress.progress; watch = c.args.watch } in
    let a = sinks (g.K.Sink.written c.args.out.now) (g.K.Sink.faults c.args.out.now) (g.J.Sink.written c.args.journal.now) (g.J.Sink.faults c.args.journal.now) in
    let same : all_in_order (stmt_terms c.as_slice-stmts.result.now) ≡ statements d = ap (λ (ss : List TStmt). all_in_order (stmt_terms ss)) c.as_slice-stmts.ensures in
    before_row wa d opts extra (statements d) (all_in_order (stmt_terms c.as_slice-stmts.result.now)) p a (sym same) (starts wa d opts extra p a c.in_ok-progress.ensures.state c.in_ok-progress.ensures.counts c.requires.room)

pub returns-in_err-walk_all-clause-stops : goal.returns-in_err-walk_all-clause-stops
returns-in_err-walk_all-clause-stops g c =
    let wa = watcher g.W.Watch.content g.W.Watch.step g.W.Watch.left in
    let d = design_term c.args.script.now.design.now in
    let opts = c.args.script.now.opts in
    let extra = c.args.script.now.extra in
    let p : Watched g.row.W.Denot = record { progress = c.in_ok-progress.progress; watch = c.args.watch } in
    let a = sinks (g.K.Sink.written c.args.out.now) (g.K.Sink.faults c.args.out.now) (g.J.Sink.written c.args.journal.now) (g.J.Sink.faults c.args.journal.now) in
    let u = sinks (g.K.Sink.written c.walk_all.new.out) (g.K.Sink.faults c.walk_all.new.out) (g.J.Sink.written c.walk_all.new.journal) (g.J.Sink.faults c.walk_all.new.journal) in
    let same : all_in_order (stmt_terms c.as_slice-stmts.result.now) ≡ statements d = ap (λ (ss : List TStmt). all_in_order (stmt_terms ss)) c.as_slice-stmts.ensures in
    failed_as c.from_residual-in_err-walk_all.result _ _ c.from_residual-in_err-walk_all.ensures.1
    (λ why e. run_stops wa d opts extra p a u why c.in_ok-progress.ensures.state c.in_ok-progress.ensures.counts c.requires.room
    (breaks_as wa d opts extra (statements d) p a u why _ e
    (breaks_row wa d opts extra (all_in_order (stmt_terms c.as_slice-stmts.result.now)) (statements d) p a u _ same c.in_err-walk_all.ensures.breaks)))

pub returns-clause-ends : goal.returns-clause-ends
returns-clause-ends g c =
    let wa = watcher g.W.Watch.content g.W.Watch.step g.W.Watch.left in
    let d = design_term c.args.script.now.design.now in
    let opts = c.args.script.now.opts in
    let extra = c.args.script.now.extra in
    let p : Watched g.row.W.Denot = record { progress = c.in_ok-progress.progress; watch = c.args.watch } in
    let q = c.walk_all.new.run in
    let a = sinks (g.K.Sink.written c.args.out.now) (g.K.Sink.faults c.args.out.now) (g.J.Sink.written c.args.journal.now) (g.J.Sink.faults c.args.journal.now) in
    let u = sinks (g.K.Sink.written c.walk_all.new.out) (g.K.Sink.faults c.walk_all.new.out) (g.J.Sink.written c.walk_all.new.journal) (g.J.Sink.faults c.walk_all.new.journal) in
    let same : all_in_order (stmt_terms c.as_slice-stmts.result.now) ≡ statements d = ap (λ (ss : List TStmt). all_in_order (stmt_terms ss)) c.as_slice-stmts.ensures in
    subst (λ (e : End). Watches (taken g.W.Watch.step) (g.W.Watch.content p.watch) (Some (g.W.Watch.content q.watch)) d opts extra e a u) (sym c.end_of-end.ensures)
    (run_ends wa d opts extra p q a u c.in_ok-progress.ensures.state c.in_ok-progress.ensures.counts c.requires.room (goes_row wa d opts extra (all_in_order (stmt_terms c.as_slice-stmts.result.now)) (statements d) p q a u same c.in_ok-walk_all.ensures.goes))

use Rattle.std.proofs.Common.{ℕ, ◌-◌, drop}
use Rattle.svr_typed.specs.StmtTerm.{design_term, stmt_term, stmt_terms}
use Rattle.svr_script.specs.Statement.{times, in_order, all_in_order}
use Rattle.svr_run.specs.declared.watched.Watched.{Watched}
use Rattle.svr_run.specs.declared.stop.Stop.{Stop}
use Rattle.svr_run.specs.Telling.{Sinks, sinks}
use Rattle.svr_run.specs.Watching.{watcher}
use Rattle.svr_run.specs.Reached.{IsBefore, Goes, Breaks}
use Rattle.svr_run.proofs.walk.+walk.Given as goal

abbrev pub invariant-walk_one-loop-turn : goal.invariant-walk_one-loop-turn
invariant-walk_one-loop-turn g l = record {
  before : IsBefore (watcher g.W.Watch.content g.W.Watch.step g.W.Watch.left) (design_term l.script.design.now) l.script.opts l.script.extra (times (l._turn-end - l._turn) (in_order (stmt_term l.inside))) l.run
      (sinks (g.K.Sink.written l.out) (g.K.Sink.faults l.out) (g.J.Sink.written l.journal) (g.J.Sink.faults l.journal));
  goes : (q : Watched g.row.W.Denot) (after : Sinks) → Goes (watcher g.W.Watch.content g.W.Watch.step g.W.Watch.left) (design_term l.script.design.now) l.script.opts l.script.extra (times (l._turn-end - l._turn) (in_order (stmt_term l.inside))) l.run
      (sinks (g.K.Sink.written l.out) (g.K.Sink.faults l.out) (g.J.Sink.written l.journal) (g.J.Sink.faults l.journal)) q after
      → Goes (watcher g.W.Watch.content g.W.Watch.step g.W.Watch.left) (design_term l.script.design.now) l.script.opts l.script.extra (times l._turn-end (in_order (stmt_term l.inside))) l.fn.run
      (sinks (g.K.Sink.written l.fn.out) (g.K.Sink.faults l.fn.out) (g.J.Sink.written l.fn.journal) (g.J.Sink.faults l.fn.journal)) q after;
  breaks : (why : Stop) (after : Sinks) → Breaks (watcher g.W.Watch.content g.W.Watch.step g.W.Watch.left) (design_term l.script.design.now) l.script.opts l.script.extra (times (l._turn-end - l._turn) (in_order (stmt_term l.inside))) l.run
      (sinks (g.K.Sink.written l.out) (g.K.Sink.faults l.out) (g.J.Sink.written l.journal) (g.J.Sink.faults l.journal)) why after
      → Breaks (watcher g.W.Watch.content g.W.Watch.step g.W.Watch.left) (design_term l.script.design.now) l.script.opts l.script.extra (times l._turn-end (in_order (stmt_term l.inside))) l.fn.run
      (sinks (g.K.Sink.written l.fn.out) (g.K.Sink.faults l.fn.out) (g.J.Sink.written l.fn.journal) (g.J.Sink.faults l.fn.journal)) why after;
}

abbrev pub invariant-walk_all-loop-stmt : goal.invariant-walk_all-loop-stmt
invariant-walk_all-loop-stmt g l = record {
  before : IsBefore (watcher g.W.Watch.content g.W.Watch.step g.W.Watch.left) (design_term l.script.design.now) l.script.opts l.script.extra (all_in_order (stmt_terms (drop l.stmt-index l.stmts))) l.run
      (sinks (g.K.Sink.written l.out) (g.K.Sink.faults l.out) (g.J.Sink.written l.journal) (g.J.Sink.faults l.journal));
  goes : (q : Watched g.row.W.Denot) (after : Sinks) → Goes (watcher g.W.Watch.content g.W.Watch.step g.W.Watch.left) (design_term l.script.design.now) l.script.opts l.script.extra (all_in_order (stmt_terms (drop l.stmt-index l.stmts))) l.run
      (sinks (g.K.Sink.written l.out) (g.K.Sink.faults l.out) (g.J.Sink.written l.journal) (g.J.Sink.faults l.journal)) q after
      → Goes (watcher g.W.Watch.content g.W.Watch.step g.W.Watch.left) (design_term l.script.design.now) l.script.opts l.script.extra (all_in_order (stmt_terms l.stmts)) l.fn.run
      (sinks (g.K.Sink.written l.fn.out) (g.K.Sink.faults l.fn.out) (g.J.Sink.written l.fn.journal) (g.J.Sink.faults l.fn.journal)) q after;
  breaks : (why : Stop) (after : Sinks) → Breaks (watcher g.W.Watch.content g.W.Watch.step g.W.Watch.left) (design_term l.script.design.now) l.script.opts l.script.extra (all_in_order (stmt_terms (drop l.stmt-index l.stmts))) l.run
      (sinks (g.K.Sink.written l.out) (g.K.Sink.faults l.out) (g.J.Sink.written l.journal) (g.J.Sink.faults l.journal)) why after
      → Breaks (watcher g.W.Watch.content g.W.Watch.step g.W.Watch.left) (design_term l.script.design.now) l.script.opts l.script.extra (all_in_order (stmt_terms l.stmts)) l.fn.run
      (sinks (g.K.Sink.written l.fn.out) (g.K.Sink.faults l.fn.out) (g.J.Sink.written l.fn.journal) (g.J.Sink.faults l.fn.journal)) why after;
}

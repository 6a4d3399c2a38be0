use Rattle.std.proofs.Common.{◌-◌, ◌∷◌, []}
use Rattle.svr_typed.specs.StmtTerm.{call, call_term, design_term}
use Rattle.svr_frame.specs.Frame.{frame_term}
use Rattle.svr_script.specs.Statement.{times}
use Rattle.svr_randomize.specs.Kept.{IsKept}
use Rattle.svr_run.specs.declared.watched.Watched.{Watched}
use Rattle.svr_run.specs.declared.stop.Stop.{Stop}
use Rattle.svr_run.specs.Telling.{Sinks, sinks}
use Rattle.svr_run.specs.Watching.{watcher}
use Rattle.svr_run.specs.Reached.{IsBefore, Goes, Breaks}
use Rattle.svr_run.specs.Repeating.{IsFrameOf}
use Rattle.svr_run.proofs.turns.take_turns.Given as goal

abbrev pub invariant-loop-time : goal.invariant-loop-time
invariant-loop-time g l = record {
  framed : IsFrameOf (design_term l.script.design.now) l.run.progress.world (call_term l.call) (frame_term l.frame);
  kept : IsKept (frame_term l.frame) l.kept;
  before : IsBefore (watcher g.W.Watch.content g.W.Watch.step g.W.Watch.left) (design_term l.script.design.now) l.script.opts l.script.extra (times (l.count - l._time) (call (call_term l.call) ∷ [])) l.run
      (sinks (g.K.Sink.written l.out) (g.K.Sink.faults l.out) (g.J.Sink.written l.journal) (g.J.Sink.faults l.journal));
  goes : (q : Watched g.row.W.Denot) (after : Sinks) → Goes (watcher g.W.Watch.content g.W.Watch.step g.W.Watch.left) (design_term l.script.design.now) l.script.opts l.script.extra (times (l.count - l._time) (call (call_term l.call) ∷ [])) l.run
      (sinks (g.K.Sink.written l.out) (g.K.Sink.faults l.out) (g.J.Sink.written l.journal) (g.J.Sink.faults l.journal)) q after
      → Goes (watcher g.W.Watch.content g.W.Watch.step g.W.Watch.left) (design_term l.script.design.now) l.script.opts l.script.extra (times l.count (call (call_term l.call) ∷ [])) l.fn.run
      (sinks (g.K.Sink.written l.fn.out) (g.K.Sink.faults l.fn.out) (g.J.Sink.written l.fn.journal) (g.J.Sink.faults l.fn.journal)) q after;
  breaks : (why : Stop) (after : Sinks) → Breaks (watcher g.W.Watch.content g.W.Watch.step g.W.Watch.left) (design_term l.script.design.now) l.script.opts l.script.extra (times (l.count - l._time) (call (call_term l.call) ∷ [])) l.run
      (sinks (g.K.Sink.written l.out) (g.K.Sink.faults l.out) (g.J.Sink.written l.journal) (g.J.Sink.faults l.journal)) why after
      → Breaks (watcher g.W.Watch.content g.W.Watch.step g.W.Watch.left) (design_term l.script.design.now) l.script.opts l.script.extra (times l.count (call (call_term l.call) ∷ [])) l.fn.run
      (sinks (g.K.Sink.written l.fn.out) (g.K.Sink.faults l.fn.out) (g.J.Sink.written l.fn.journal) (g.J.Sink.faults l.fn.journal)) why after;
}

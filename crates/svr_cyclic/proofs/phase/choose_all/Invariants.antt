use Rattle.std.proofs.Common.{◌≡◌, take}
use Rattle.svr_draw.specs.Words.{generator, after}
use Rattle.svr_cyclic.specs.Questions.{AreInFront, CanAsk}
use Rattle.svr_cyclic.specs.Phase.{call_at, over_call, IsSoFar}
use Rattle.svr_cyclic.proofs.phase.choose_all.Given as goal

abbrev pub invariant-loop-prop : goal.invariant-loop-prop
invariant-loop-prop l = record {
  can : CanAsk l.asking l.asker.solver;
  same : l.asker.solver.clauses ≡ l.initial.asker.solver.clauses;
  front : AreInFront l.asking l.progress.chosen.items l.asker.front.items;
  drawn : l.draws ≡ after l.prop-index (generator l.call.opts.seed l.call.number);
  far : IsSoFar (call_at l.call) (over_call (call_at l.call) l.asking.layout.now l.initial.asker.solver.clauses) (take l.prop-index l.props) l.progress;
}

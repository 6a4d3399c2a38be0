use Rattle.std.proofs.Common.{◌≡◌, take}
use Rattle.std.specs.List.{All}
use Rattle.svr_frame.specs.Frame.{frame_term}
use Rattle.svr_cyclic.specs.Questions.{AreInFront, CanAsk}
use Rattle.svr_cyclic.specs.Values.{CannotTake}
use Rattle.svr_cyclic.specs.Denials.{AreDenied}
use Rattle.svr_cyclic.proofs.look.first_found.Given as goal

abbrev pub invariant-loop-value : goal.invariant-loop-value
invariant-loop-value l = record {
  can : CanAsk l.asking l.asker.solver;
  same : l.asker.solver.clauses ≡ l.initial.asker.solver.clauses;
  front : AreInFront l.asking l.sought.chosen.now l.asker.front.items;
  none : All (CannotTake (frame_term l.asking.frame.now) l.sought.chosen.now l.sought.prop) (take l.value-index l.values);
  denied : AreDenied l.asking l.sought l.initial.asker.solver.clauses l.known.denied.items;
}

use Rattle.std.proofs.Common.{◌≡◌}
use Rattle.svr_cyclic.specs.Questions.{AreInFront, CanAsk}
use Rattle.svr_cyclic.specs.Denials.{AreDenied}
use Rattle.svr_cyclic.proofs.single.ask_each.Given as goal

abbrev pub invariant-loop-lit : goal.invariant-loop-lit
invariant-loop-lit l = record {
  can : CanAsk l.asking l.asker.solver;
  same : l.asker.solver.clauses ≡ l.initial.asker.solver.clauses;
  front : AreInFront l.asking l.sought.chosen.now l.asker.front.items;
  denied : AreDenied l.asking l.sought l.initial.asker.solver.clauses l.known.denied.items;
}

use Rattle.std.proofs.Common.{◌≡◌, length}
use Rattle.svr_query.specs.Answer.{IsModel}
use Rattle.svr_soft.specs.Kept.{with_kept, IsKept, AreDropped}
use Rattle.svr_soft.specs.Later.{IsLater}
use Rattle.svr_soft.proofs.priority.soft_in_turn.Given as goal

abbrev pub invariant-loop-lit : goal.invariant-loop-lit
invariant-loop-lit l = record {
  later : IsLater l.initial.solver l.solver;
  ranked : l.rank ≡ l.lit-index;
  keeps : IsKept l.initial.solver.clauses l.base l.soft l.lit-index l.kept.items;
  drops : AreDropped l.initial.solver.clauses l.base l.soft l.lit-index l.kept.items l.dropped.items;
  stand : l.assumed.items ≡ with_kept l.base l.soft l.kept.items;
  long : length l.values.items ≡ l.initial.solver.vars;
  meets : IsModel l.initial.solver.clauses l.assumed.items l.values.items;
}

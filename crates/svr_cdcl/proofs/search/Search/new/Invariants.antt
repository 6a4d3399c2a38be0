use Rattle.std.proofs.Common.{◌≡◌, ◌*◌, take}
use Rattle.svr_chain.specs.Same.{SameClauses}
use Rattle.svr_watch.specs.Store.{clauses_of}
use Rattle.svr_cdcl.proofs.search.Search.new.Given as goal

abbrev pub invariant-loop-clause : goal.invariant-loop-clause
invariant-loop-clause l = record {
  codes : l.store.arena.codes ≡ 2 * l.cnf.vars;
  same : SameClauses (clauses_of l.store) (take l.clause-index l.cnf.clauses.items);
}

use Rattle.std.proofs.Common.{◌≡◌, false, map, take}
use Rattle.svr_chain.specs.Clauses.{flip, is_tautology}
use Rattle.svr_lrat_judge.proofs.lemma.deny.Given as goal

abbrev pub invariant-loop-lit : goal.invariant-loop-lit
invariant-loop-lit l = record {
  apart : is_tautology (take l.lit-index l.lits) ≡ false;
  denied : l.known ≡ map flip (take l.lit-index l.lits);
}

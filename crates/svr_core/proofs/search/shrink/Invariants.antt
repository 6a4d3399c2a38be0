use Rattle.svr_soft.specs.Later.{IsLater}
use Rattle.svr_core.specs.Walked.{IsWalked}
use Rattle.svr_core.proofs.search.shrink.Given as goal

abbrev pub invariant-loop-place : goal.invariant-loop-place
invariant-loop-place l = record {
  later : IsLater l.initial.solver l.solver;
  walked : IsWalked l.initial.solver l.base l.groups l.place l.core.items l.refutation;
}

abbrev pub decreases-loop-place : goal.decreases-loop-place
decreases-loop-place l = l.place

use Rattle.std.proofs.Common.{◌≡◌, ◌≤◌, length, drop}
use Rattle.svr_gate.specs.Numbers.{number}
use Rattle.svr_query.specs.Logged.{valuation_of}
use Rattle.svr_question.proofs.literals.number_read.Given as goal

abbrev pub invariant-loop-at : goal.invariant-loop-at
invariant-loop-at l = record {
  within : l.at ≤ length l.bits;
  value : l.number ≡ number (valuation_of l.values) (drop l.at l.bits);
}

abbrev pub decreases-loop-at : goal.decreases-loop-at
decreases-loop-at l = l.at

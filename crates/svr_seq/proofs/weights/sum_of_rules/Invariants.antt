use Rattle.std.proofs.Common.{◌≡◌, ◌≤◌, ◌+◌, ◌*◌, ◌^◌, drop}
use Rattle.svr_seq.specs.SeqTerm.{rule_terms}
use Rattle.svr_seq.specs.Sound.{rule_weights}
use Rattle.svr_seq.proofs.weights.sum_of_rules.Given as goal

abbrev pub invariant-loop-rule : goal.invariant-loop-rule
invariant-loop-rule l = record {
  small : l.sum ≤ l.rule-index * 2 ^ 32;
  told : l.sum + rule_weights (rule_terms (drop l.rule-index l.rules)) ≡ rule_weights (rule_terms l.rules);
}

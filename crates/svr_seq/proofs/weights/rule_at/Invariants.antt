use Rattle.std.proofs.Common.{◌≡◌, drop}
use Rattle.svr_seq.specs.SeqTerm.{rule_terms}
use Rattle.svr_seq.specs.Line as spec
use Rattle.svr_seq.proofs.weights.rule_at.Given as goal

abbrev pub invariant-loop-rule : goal.invariant-loop-rule
invariant-loop-rule l = spec.rule_at (rule_terms (drop l.rule-index l.rules)) l.left ≡ spec.rule_at (rule_terms l.rules) l.number

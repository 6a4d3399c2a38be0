use Rattle.std.proofs.Common.{◌≡◌, drop}
use Rattle.svr_seq.specs.SeqTerm.{branch_terms}
use Rattle.svr_seq.specs.Line as spec
use Rattle.svr_seq.proofs.weights.branch_at.Given as goal

abbrev pub invariant-loop-branch : goal.invariant-loop-branch
invariant-loop-branch l = spec.branch_at (branch_terms (drop l.branch-index l.branches)) l.left ≡ spec.branch_at (branch_terms l.branches) l.number

use Rattle.std.proofs.Common.{◌≡◌, ◌≤◌, ◌+◌, ◌*◌, ◌^◌, drop}
use Rattle.svr_seq.specs.SeqTerm.{branch_terms}
use Rattle.svr_seq.specs.Sound.{branch_weights}
use Rattle.svr_seq.proofs.weights.sum_of_branches.Given as goal

abbrev pub invariant-loop-branch : goal.invariant-loop-branch
invariant-loop-branch l = record {
  small : l.sum ≤ l.branch-index * 2 ^ 32;
  told : l.sum + branch_weights (branch_terms (drop l.branch-index l.branches)) ≡ branch_weights (branch_terms l.branches);
}

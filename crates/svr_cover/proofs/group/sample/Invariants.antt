use Rattle.std.proofs.Common.{◌≡◌, length}
use Rattle.svr_cover.specs.Sampling.{sampled}
use Rattle.svr_cover.proofs.group.sample.Given as goal

abbrev pub invariant-groups : goal.invariant-groups
invariant-groups l = sampled l.class l.values l.counts l.left ≡ sampled l.class l.values l.fn.counts l.groups

abbrev pub decreases-groups : goal.decreases-groups
decreases-groups l = length l.left

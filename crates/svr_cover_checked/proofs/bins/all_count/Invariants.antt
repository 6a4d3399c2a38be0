use Rattle.std.proofs.Common.{◌≡◌, ◌≤◌, ◌+◌, length}
use Rattle.svr_token.specs.Names.{names_of}
use Rattle.svr_cover_checked.specs.declared.limits.TheConstants.{MOST_BINS}
use Rattle.svr_cover_checked.specs.Refusals.{all_count}
use Rattle.svr_cover_checked.proofs.bins.all_count.Given as goal

abbrev pub invariant-bins : goal.invariant-bins
invariant-bins l = record {
  sum : all_count (names_of l.names) l.count l.left ≡ all_count (names_of l.names) 0 l.bins;
  near : l.count ≤ MOST_BINS + 1;
}

abbrev pub decreases-bins : goal.decreases-bins
decreases-bins l = length l.left

use Rattle.std.proofs.Common.{◌≡◌, ◌≤◌, ◌+◌, length}
use Rattle.svr_token.specs.Names.{names_of}
use Rattle.svr_cover_checked.specs.declared.limits.TheConstants.{MOST_BINS}
use Rattle.svr_cover_checked.specs.Numbers.{sizes}
use Rattle.svr_cover_checked.proofs.ranges.sizes.Given as goal

abbrev pub invariant-walk : goal.invariant-walk
invariant-walk l = record {
  sum : sizes (names_of l.names) l.sum l.left ≡ sizes (names_of l.names) 0 l.ranges;
  near : l.sum ≤ MOST_BINS + 1;
}

abbrev pub decreases-walk : goal.decreases-walk
decreases-walk l = length l.left

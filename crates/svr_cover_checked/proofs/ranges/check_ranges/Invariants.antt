use Rattle.std.proofs.Common.{◌≡◌, ◌+◌, length}
use Rattle.svr_token.specs.Names.{names_of}
use Rattle.svr_cover_checked.specs.Numbers.{ranges_refusals}
use Rattle.svr_cover_checked.proofs.ranges.check_ranges.Given as goal

abbrev pub invariant-walk : goal.invariant-walk
invariant-walk l = record {
  place : l.at + length l.left ≡ length l.ranges;
  refused : ranges_refusals (names_of l.names) l.each l.ranges 0 l.ranges ≡ ranges_refusals (names_of l.names) l.each l.ranges l.at l.left;
}

abbrev pub decreases-walk : goal.decreases-walk
decreases-walk l = length l.left

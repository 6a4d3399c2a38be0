use Rattle.std.proofs.Common.{◌≡◌, ◌+◌, ◌≤◌, length}
use Rattle.svr_token.specs.Names.{names_of}
use Rattle.svr_cover_checked.specs.declared.limits.TheConstants.{MOST_BINS}
use Rattle.svr_cover_checked.specs.Refusals.{bins_refusals}
use Rattle.svr_cover_checked.specs.Tables.{found_in}
use Rattle.svr_cover_checked.proofs.bins.check_each.Given as goal

abbrev pub invariant-bins : goal.invariant-bins
invariant-bins l = record {
  place : l.at + length l.left ≡ length l.bins;
  near : l.count ≤ MOST_BINS + 1;
  refused : bins_refusals (names_of l.places.names) (found_in l.places.table.now.entries) 0 0 l.bins ≡ bins_refusals (names_of l.places.names) (found_in l.places.table.now.entries) l.at l.count l.left;
}

abbrev pub decreases-bins : goal.decreases-bins
decreases-bins l = length l.left

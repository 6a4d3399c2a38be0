use Rattle.std.proofs.Common.{◌≡◌, [], length}
use Rattle.svr_token.specs.Names.{names_of}
use Rattle.svr_cover_made.specs.Stored.{with_all_bins}
use Rattle.svr_cover_made.proofs.stored.all_bins.Given as goal

abbrev pub invariant-bins : goal.invariant-bins
invariant-bins l = with_all_bins (names_of l.names) l.kind l.done l.left ≡ with_all_bins (names_of l.names) l.kind [] l.bins

abbrev pub decreases-bins : goal.decreases-bins
decreases-bins l = length l.left

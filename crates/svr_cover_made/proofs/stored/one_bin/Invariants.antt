use Rattle.std.proofs.Common.{◌≡◌, [], length}
use Rattle.svr_token.specs.Names.{names_of}
use Rattle.svr_cover_made.specs.Stored.{with_ranges}
use Rattle.svr_cover_made.proofs.stored.one_bin.Given as goal

abbrev pub invariant-written : goal.invariant-written
invariant-written l = with_ranges (names_of l.names) l.kind l.done l.left ≡ with_ranges (names_of l.names) l.kind [] l.written

abbrev pub decreases-written : goal.decreases-written
decreases-written l = length l.left

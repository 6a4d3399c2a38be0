use Rattle.std.proofs.Common.{◌≡◌, length}
use Rattle.svr_token.specs.Names.{names_of}
use Rattle.svr_cover_made.specs.Named.{with_ranges_names}
use Rattle.svr_cover_made.proofs.named.put_ranges.Given as goal

abbrev pub invariant-written : goal.invariant-written
invariant-written l = with_ranges_names (names_of l.texts) l.name l.names l.left ≡ with_ranges_names (names_of l.texts) l.name l.fn.names l.written

abbrev pub decreases-written : goal.decreases-written
decreases-written l = length l.left

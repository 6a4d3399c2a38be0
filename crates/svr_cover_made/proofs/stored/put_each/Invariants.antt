use Rattle.std.proofs.Common.{◌≡◌, length}
use Rattle.svr_token.specs.Names.{names_of}
use Rattle.svr_cover_made.specs.Stored.{with_each}
use Rattle.svr_cover_made.proofs.stored.put_each.Given as goal

abbrev pub invariant-written : goal.invariant-written
invariant-written l = with_each (names_of l.names) l.kind l.bins l.left ≡ with_each (names_of l.names) l.kind l.fn.bins l.written

abbrev pub decreases-written : goal.decreases-written
decreases-written l = length l.left

use Rattle.std.proofs.Common.{◌≡◌}
use Rattle.svr_cover_made.specs.Stored.{with_singles}
use Rattle.svr_cover_made.proofs.stored.put_singles.Given as goal

abbrev pub invariant-loop-number : goal.invariant-loop-number
invariant-loop-number l = l.bins ≡ with_singles l.kind l.fn.bins l.low l.number

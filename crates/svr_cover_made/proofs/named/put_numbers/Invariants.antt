use Rattle.std.proofs.Common.{◌≡◌}
use Rattle.svr_cover_made.specs.Named.{with_numbers}
use Rattle.svr_cover_made.proofs.named.put_numbers.Given as goal

abbrev pub invariant-loop-number : goal.invariant-loop-number
invariant-loop-number l = l.names ≡ with_numbers l.fn.names l.name l.low l.number

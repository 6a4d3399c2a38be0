use Rattle.std.proofs.Common.{◌≡◌, true, take}
use Rattle.svr_elab_order.specs.Ranks.{are_higher}
use Rattle.svr_elab_order.proofs.ranks.Ranks.are_higher.Given as goal

abbrev pub invariant-loop-number : goal.invariant-loop-number
invariant-loop-number l = are_higher l.self l.low (take l.number-index l.numbers) ≡ true

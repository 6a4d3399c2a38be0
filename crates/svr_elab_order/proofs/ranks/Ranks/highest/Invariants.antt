use Rattle.std.proofs.Common.{◌≡◌, List, ℕ, take}
use Rattle.svr_elab_order.specs.Ranks.{goes_up, are_higher}
use Rattle.svr_elab_order.proofs.ranks.Ranks.highest.Given as goal

abbrev pub invariant-loop-number : goal.invariant-loop-number
invariant-loop-number l = (later : List ℕ) → goes_up l.self (take l.number-index l.numbers) later ≡ are_higher l.self l.high later

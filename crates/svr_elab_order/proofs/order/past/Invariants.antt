use Rattle.std.proofs.Common.{◌≡◌, ◌<◌, ◌≤◌, ◌^◌, ℕ, true, take}
use Rattle.svr_elab_order.specs.Order.{is_in}
use Rattle.svr_elab_order.proofs.order.past.Given as goal

abbrev pub invariant-loop-number : goal.invariant-loop-number
invariant-loop-number l = record {
  above : (a : ℕ) → is_in a (take l.number-index l.numbers) ≡ true → a < l.past;
  small : l.past ≤ 2 ^ 32;
}

use Rattle.std.proofs.Common.{◌≡◌, true, not}
use Rattle.svr_gate.specs.Keys.{all_below, tells_apart}
use Rattle.svr_gate.proofs.gate.Gate.is_symmetric_at.Given as goal

abbrev pub invariant-loop-row : goal.invariant-loop-row
invariant-loop-row l = all_below (λ i. not (tells_apart l.self.table l.place i)) l.row ≡ true

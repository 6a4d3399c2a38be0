use Rattle.std.proofs.Common.{◌≡◌, ◌≤◌, ℕ, ap, ◌∙◌, arith}
use Rattle.svr_gate.specs.declared.gate.Gate.{Gate}
use Rattle.svr_gate.specs.Keys.{with_order_at}
use Rattle.svr_gate.proofs.OrderLemmas.{with_order_at-count}
use Rattle.svr_gate.proofs.gate.Gate.in_order.Goals as goal

few : (j : ℕ) (g h : Gate) → h ≡ with_order_at j g → g.count ≤ 4 → h.count ≤ 4
few j g h e k = omega (arith, ap (λ (x : Gate). x.count) e ∙ with_order_at-count j g)

pub with_order_at-requires-2-clause-few : goal.with_order_at-requires-2-clause-few
with_order_at-requires-2-clause-few c = few 0 c.args.self c.with_order_at.result c.with_order_at.ensures c.requires

pub with_order_at-requires-3-clause-few : goal.with_order_at-requires-3-clause-few
with_order_at-requires-3-clause-few c = few 1 c.with_order_at.result c.with_order_at-2.result c.with_order_at-2.ensures (few 0 c.args.self c.with_order_at.result c.with_order_at.ensures c.requires)

pub with_order_at-requires-4-clause-few : goal.with_order_at-requires-4-clause-few
with_order_at-requires-4-clause-few c =
    few 2 c.with_order_at-2.result c.with_order_at-3.result c.with_order_at-3.ensures
    (few 1 c.with_order_at.result c.with_order_at-2.result c.with_order_at-2.ensures (few 0 c.args.self c.with_order_at.result c.with_order_at.ensures c.requires))

pub with_order_at-requires-5-clause-few : goal.with_order_at-requires-5-clause-few
with_order_at-requires-5-clause-few c =
    few 0 c.with_order_at-3.result c.with_order_at-4.result c.with_order_at-4.ensures
    (few 2 c.with_order_at-2.result c.with_order_at-3.result c.with_order_at-3.ensures
    (few 1 c.with_order_at.result c.with_order_at-2.result c.with_order_at-2.ensures (few 0 c.args.self c.with_order_at.result c.with_order_at.ensures c.requires)))

pub with_order_at-requires-6-clause-few : goal.with_order_at-requires-6-clause-few
with_order_at-requires-6-clause-few c =
    few 1 c.with_order_at-4.result c.with_order_at-5.result c.with_order_at-5.ensures
    (few 0 c.with_order_at-3.result c.with_order_at-4.result c.with_order_at-4.ensures
    (few 2 c.with_order_at-2.result c.with_order_at-3.result c.with_order_at-3.ensures
    (few 1 c.with_order_at.result c.with_order_at-2.result c.with_order_at-2.ensures (few 0 c.args.self c.with_order_at.result c.with_order_at.ensures c.requires))))

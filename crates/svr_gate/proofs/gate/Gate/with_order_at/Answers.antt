use Rattle.std.proofs.Common.{◌≡◌, ◌∙◌, ◌+◌, ◌<◌, ◌≤◌, ℕ, true, false, ap, sym, arith, get_or}
use Rattle.std.specs.Prelude.{nat_lt, swap}
use Rattle.std.proofs.lemmas.Bool.{and_from, and_left, and_right, lt-ltb, ltb-true, false_from_ne_true, cond-true, cond-false}
use Rattle.svr_gate.specs.declared.gate.Gate.{Gate}
use Rattle.svr_gate.specs.Keys.{is_to_exchange, is_symmetric_at, with_order_at, no_input}
use Rattle.svr_gate.proofs.OrderLemmas.{with_order_at-cases}
use Rattle.svr_gate.proofs.gate.Gate.with_order_at.Goals as goal
use Rattle.svr_gate.proofs.gate.Gate.with_order_at.Goals.{else-place-gate-via-then-place-gate+then-gate-place+else-is_symmetric_at, else-place-gate-via-then-place-gate+else-gate-place, else-place-gate-via-else-place-gate}

pub returns-then-is_symmetric_at : goal.returns-then-is_symmetric_at
returns-then-is_symmetric_at c =
    let g : Gate = c.args.self in
    let j = c.args.place in
    let e : is_to_exchange j g ≡ true =
    and_from (nat_lt (j + 1) g.count) _ (lt-ltb (j + 1) g.count c.if-place-gate.true)
    (and_from (nat_lt (get_or g.places (j + 1) no_input).var (get_or g.places j no_input).var) (is_symmetric_at g j) (lt-ltb (get_or g.places (j + 1) no_input).var (get_or g.places j no_input).var c.if-gate-place.true)
    (sym c.is_symmetric_at.ensures ∙ c.if-is_symmetric_at.true)) in
    ap (λ ps. record g { places = ps }) c.swap.ensures.after
    ∙ sym (with_order_at-cases j g ∙ cond-true (is_to_exchange j g) (record g { places = swap g.places j (j + 1) }) g e)

not_below : (m n : ℕ) → n ≤ m → nat_lt m n ≡ false
not_below m n h = false_from_ne_true (nat_lt m n) (λ e. absurd (omega (arith, ltb-true m n e)))

stays : (j : ℕ) (g : Gate) → is_to_exchange j g ≡ false → g ≡ with_order_at j g
stays j g e = sym (with_order_at-cases j g ∙ cond-false (is_to_exchange j g) (record g { places = swap g.places j (j + 1) }) g e)

pub returns-else-place-gate : goal.returns-else-place-gate
returns-else-place-gate c =
    let g : Gate = c.args.self in
    let j = c.args.place in
    elim c.else-place-gate.branch [
      | else-place-gate-via-then-place-gate+then-gate-place+else-is_symmetric_at w ↦ stays j g (and_right _ _ (and_right _ _ (sym w.is_symmetric_at.ensures ∙ w.if-is_symmetric_at.false)))
      | else-place-gate-via-then-place-gate+else-gate-place w ↦ stays j g (and_right _ _ (and_left _ _ (not_below _ _ w.if-gate-place.false)))
      | else-place-gate-via-else-place-gate w ↦ stays j g (and_left _ _ (not_below _ _ w.if-place-gate.false))
    ]

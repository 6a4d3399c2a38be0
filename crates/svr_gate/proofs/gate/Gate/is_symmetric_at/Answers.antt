use Rattle.std.proofs.Common.{◌≡◌, ◌<◌, ◌+◌, ◌*◌, ◌%◌, ◌/◌, ◌^◌, ℕ, Bool, true, false, not, ◌&&◌, eqb, ap, sym, ◌∙◌, arith}
use Rattle.std.specs.Int.{bit_at}
use Rattle.std.proofs.lemmas.Bool.{and_from, eq-eqb, ne_eqb}
use Rattle.svr_gate.specs.Keys.{is_symmetric_at, all_below, tells_apart}
use Rattle.svr_gate.proofs.BitLemmas.{row_count_wide, row_step, all_below-fails}
use Rattle.svr_gate.proofs.OrderLemmas.{is_symmetric_at-test}
use Rattle.svr_gate.proofs.gate.Gate.is_symmetric_at.Goals as goal

pub overflow_shr-table : goal.overflow_shr-table
overflow_shr-table c = omega (arith, (row_count_wide c.args.self.now.count c.requires.few).1)

pub overflow_shr-table-then-is_first_alone : goal.overflow_shr-table-then-is_first_alone
overflow_shr-table-then-is_first_alone c = omega (arith, (row_count_wide c.args.self.now.count c.requires.few).1, row_step c.args.place c.requires.at)

differs : (t j row step n : ℕ) → step ≡ 2 ^ j → row < n → row / 2 ^ j % 4 ≡ 1 → (t / 2 ^ row % 2 ≡ t / 2 ^ (row + step) % 2 → ⊥) → all_below (λ i. not (tells_apart t j i)) n ≡ false
differs t j row step n s lt first other =
    all_below-fails (λ i. not (tells_apart t j i)) n row
    (ap not (and_from (eqb (row / 2 ^ j % 4) 1) (not (eqb (bit_at t row) (bit_at t (row + 2 ^ j)))) (eq-eqb (row / 2 ^ j % 4) 1 first)
    (ap not (ne_eqb (bit_at t row) (bit_at t (row + 2 ^ j)) (λ e. other (e ∙ ap (λ k. t / 2 ^ (row + k) % 2) (sym s)))))))
    lt

pub returns-then-table-row : goal.returns-then-table-row
returns-then-table-row c =
    let g = c.args.self.now in
    let lt : c.loop-row.row < 2 ^ g.count = omega (arith, (row_count_wide g.count c.requires.few).0) in
    sym (is_symmetric_at-test g c.args.place ∙
    differs g.table c.args.place c.loop-row.row ((1 * 2 ^ c.args.place) % 4294967296) (2 ^ g.count) (row_step c.args.place c.requires.at).0 lt c.if-is_first_alone.true
    (λ e. c.if-table-row.true (ap (λ t. t / 2 ^ c.loop-row.row % 2) c.from-table.ensures ∙ e ∙ ap (λ t. t / 2 ^ (c.loop-row.row + (1 * 2 ^ c.args.place) % 4294967296) % 2) (sym c.from-table.ensures))))

pub returns : goal.returns
returns c =
    let g = c.args.self.now in
    let e : c.loop-row.row ≡ 2 ^ g.count = omega (arith, (row_count_wide g.count c.requires.few).0) in
    sym (is_symmetric_at-test g c.args.place ∙ ap (all_below (λ i. not (tells_apart g.table c.args.place i))) (sym e) ∙ c.loop-row.invariant)

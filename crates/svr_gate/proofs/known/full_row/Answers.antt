use Rattle.std.proofs.Common.{◌≡◌, ◌<◌, ◌∙◌, ◌+◌, ◌*◌, ◌%◌, ap, sym, length, drop, arith, false}
use Rattle.std.proofs.lemmas.List.{drop_all}
use Rattle.svr_chain.specs.declared.clause.Lit.{Lit}
use Rattle.svr_gate.specs.Numbers.{bit}
use Rattle.svr_gate.specs.Answers.{full_row}
use Rattle.svr_gate.proofs.NumberLemmas.{bit-le}
use Rattle.svr_gate.proofs.BitLemmas.{bool_byte_bit}
use Rattle.svr_gate.proofs.OpenLemmas.{row_below, known_step, unknown_step, full_row-nil}
use Rattle.svr_gate.proofs.known.full_row.Goals as goal
use Rattle.svr_gate.proofs.known.full_row.Goals.{in-Some, in-None}

pub loop-lit-preserved : goal.loop-lit-preserved
loop-lit-preserved c =
    let one = c.args.one in
    let ins = c.args.ins.now in
    let i = c.loop-lit.lit-index in
    let full = c.loop-lit.full in
    let weight = c.loop-lit.weight in
    let left = c.loop-lit.left in
    let d : Lit = record { var = 0; neg = false } in
    let lt : i < length ins = c.loop-lit-test.true in
    let rest = full_row one (drop (i + 1) ins) in
    elim c.match-known_of.branch [
      | in-Some w ↦
          let v : c.match-known_of.value ≡ bit w.in-Some.value = w.value-is ∙ bool_byte_bit w.in-Some.value in
          let b = row_below full weight c.match-known_of.value i (omega (arith, v, bit-le w.in-Some.value)) c.loop-lit.invariant.weight c.loop-lit.invariant.below in
          record {
            weight = b.0;
            below = b.1;
            row = ap (λ k. (full + weight * k) + weight * 2 * rest c.match-known_of.left) v
                ∙ ap (λ k. (full + weight * bit w.in-Some.value) + weight * 2 * rest k) w.left-is
                ∙ known_step one ins i d full weight left (full_row one ins c.args.row) lt c.loop-lit.invariant.row w.in-Some.value (sym c.known_of.ensures ∙ w.in-Some.is);
          }
      | in-None w ↦
          let b = row_below full weight c.match-known_of.value i (omega (arith, w.value-is)) c.loop-lit.invariant.weight c.loop-lit.invariant.below in
          record {
            weight = b.0;
            below = b.1;
            row = ap (λ k. (full + weight * k) + weight * 2 * rest c.match-known_of.left) w.value-is
                ∙ ap (λ k. (full + weight * (left % 2)) + weight * 2 * rest k) w.left-is
                ∙ unknown_step one ins i d full weight left (full_row one ins c.args.row) lt c.loop-lit.invariant.row (sym c.known_of.ensures ∙ w.in-None.is);
          }
    ]

pub returns-clause-row : goal.returns-clause-row
returns-clause-row c =
    let e : full_row c.args.one (drop c.loop-lit.lit-index c.args.ins.now) c.loop-lit.left ≡ 0 =
    ap (λ xs. full_row c.args.one xs c.loop-lit.left) (drop_all c.loop-lit.lit-index c.args.ins.now c.loop-lit-test.false) ∙ full_row-nil c.args.one c.loop-lit.left in
    omega (arith, c.loop-lit.invariant.row, ap (λ k. c.loop-lit.weight * k) e)

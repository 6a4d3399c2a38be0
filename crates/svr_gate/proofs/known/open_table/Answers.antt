use Rattle.std.proofs.Common.{◌≡◌, ◌<◌, ◌+◌, ◌*◌, ◌/◌, ◌%◌, ◌^◌, arith, length, ap, sym, ◌∙◌, add-one}
use Rattle.std.specs.Int.{bit_at}
use Rattle.std.proofs.Math.Pow.{pow_mono}
use Rattle.svr_gate.specs.Answers.{open_rows, full_row}
use Rattle.svr_gate.proofs.BitLemmas.{row_count, row_sum}
use Rattle.svr_gate.proofs.OpenLemmas.{open_rows-zero, open_rows-suc, open_rows-lt}
use Rattle.svr_gate.proofs.known.open_table.Goals as goal

pub loop-row-init : goal.loop-row-init
loop-row-init c = sym (open_rows-zero c.args.table c.args.one c.args.ins.now)

pub overflow_shr-sum : goal.overflow_shr-sum
overflow_shr-sum c = omega (arith, c.full_row.ensures.below, pow_mono {i = length c.args.ins.now} {j = 4} c.requires.few)

pub overflow_shl-sum : goal.overflow_shl-sum
overflow_shl-sum c = omega (arith, (row_count c.args.count c.requires.few_open).1)

pub overflow_add-sum : goal.overflow_add-sum
overflow_add-sum c =
    let w : c.loop-row.row < 16 = omega (arith, (row_count c.args.count c.requires.few_open).1) in
    let b : c.loop-row.sum < 2 ^ c.loop-row.row = omega (arith, c.loop-row.invariant, open_rows-lt c.args.table c.args.one c.args.ins.now c.loop-row.row) in
    omega (arith, (row_sum c.loop-row.sum (c.args.table / 2 ^ c.full_row.result % 2) c.loop-row.row b (omega arith) w).1)

pub loop-row-preserved : goal.loop-row-preserved
loop-row-preserved c =
    let t = c.args.table in
    let one = c.args.one in
    let ins = c.args.ins.now in
    let row = c.loop-row.row in
    let w : row < 16 = omega (arith, (row_count c.args.count c.requires.few_open).1) in
    let b : c.loop-row.sum < 2 ^ row = omega (arith, c.loop-row.invariant, open_rows-lt t one ins row) in
    let s = row_sum c.loop-row.sum (t / 2 ^ c.full_row.result % 2) row b (omega arith) w in
    ap (λ x. c.loop-row.sum + x) s.0
    ∙ ap (λ x. x + t / 2 ^ c.full_row.result % 2 * 2 ^ row) c.loop-row.invariant
    ∙ ap (λ x. open_rows t one ins row + bit_at t x * 2 ^ row) c.full_row.ensures.row
    ∙ sym (open_rows-suc t one ins row)
    ∙ ap (open_rows t one ins) (sym (add-one row))

pub returns : goal.returns
returns c = c.loop-row.invariant ∙ ap (open_rows c.args.table c.args.one c.args.ins.now) (omega (arith, (row_count c.args.count c.requires.few_open).0))

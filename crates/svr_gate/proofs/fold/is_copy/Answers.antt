use Rattle.std.proofs.Common.{arith}
use Rattle.svr_gate.proofs.BitLemmas.{row_count}
use Rattle.svr_gate.proofs.fold.is_copy.Goals as goal

pub overflow_shr-table : goal.overflow_shr-table
overflow_shr-table c = omega (arith, (row_count c.args.count c.requires.few).1)

pub overflow_cast-row-end : goal.overflow_cast-row-end
overflow_cast-row-end c = omega (arith, c.requires.few)

pub overflow_shl-row-end : goal.overflow_shl-row-end
overflow_shl-row-end c = omega (arith, c.requires.few)

pub overflow_cast-place : goal.overflow_cast-place
overflow_cast-place c = omega (arith, c.requires.few, c.requires.at)

pub overflow_shr-row : goal.overflow_shr-row
overflow_shr-row c = omega (arith, c.requires.few, c.requires.at)

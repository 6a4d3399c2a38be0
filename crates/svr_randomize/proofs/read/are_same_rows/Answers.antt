use Rattle.std.proofs.Common.{arith}
use Rattle.svr_randomize.proofs.Rows.{none_yet, one_more, all_same}
use Rattle.svr_randomize.proofs.read.are_same_rows.Goals as goal

pub loop-prop-init : goal.loop-prop-init
loop-prop-init c = none_yet c.args.random.now c.args.rows.now c.args.others.now

pub loop-prop-preserved : goal.loop-prop-preserved
loop-prop-preserved c = one_more c.args.random.now c.args.rows.now c.loop-prop.prop c.args.others.now c.loop-prop.invariant (c.is_same_row.ensures c.if-not-is_same_row.false)

pub returns : goal.returns
returns c = λ told. all_same c.args.random.now c.args.rows.now c.args.others.now (omega arith) c.loop-prop.prop (omega arith) c.loop-prop.invariant

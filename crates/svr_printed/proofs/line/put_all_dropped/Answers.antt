use Rattle.std.proofs.Common.{◌++◌, refl, arith}
use Rattle.std.specs.List.{flat_map}
use Rattle.svr_script.specs.Printed.{dropped_text}
use Rattle.svr_stream.proofs.Rows.{left_all, row_more, row_none}
use Rattle.svr_printed.proofs.line.put_all_dropped.Goals as goal

pub loop-one-init : goal.loop-one-init
loop-one-init g c = left_all

pub loop-one-preserved : goal.loop-one-preserved
loop-one-preserved g c =
    row_more (flat_map dropped_text) c.args.dropped.now c.loop-one.one-index c.one-item.result c.loop-one.invariant c.put_dropped.ensures (omega arith) c.one-item.is refl

pub returns : goal.returns
returns g c = row_none (flat_map dropped_text) c.args.dropped.now c.loop-one.one-index c.loop-one.invariant (omega arith) refl

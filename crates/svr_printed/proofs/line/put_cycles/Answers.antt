use Rattle.std.proofs.Common.{◌++◌, refl, arith}
use Rattle.std.specs.List.{flat_map}
use Rattle.svr_frame.specs.Frame.{frame_term}
use Rattle.svr_script.specs.Printed.{cycle_text}
use Rattle.svr_stream.proofs.Rows.{left_all, row_more, row_none}
use Rattle.svr_printed.proofs.line.put_cycles.Goals as goal

pub loop-renewed-init : goal.loop-renewed-init
loop-renewed-init g c = left_all

pub loop-renewed-preserved : goal.loop-renewed-preserved
loop-renewed-preserved g c =
    row_more (flat_map (cycle_text (frame_term c.args.frame.now))) c.args.cycles.now c.loop-renewed.renewed-index c.renewed-item.result c.loop-renewed.invariant c.put_cycle.ensures (omega arith) c.renewed-item.is refl

pub returns : goal.returns
returns g c = row_none (flat_map (cycle_text (frame_term c.args.frame.now))) c.args.cycles.now c.loop-renewed.renewed-index c.loop-renewed.invariant (omega arith) refl

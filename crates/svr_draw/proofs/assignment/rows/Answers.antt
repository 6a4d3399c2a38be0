use Rattle.std.proofs.Common.{arith}
use Rattle.svr_frame.specs.Frame.{frame_term}
use Rattle.svr_draw.proofs.Widths.{width_fits}
use Rattle.svr_draw.proofs.assignment.rows.Goals as goal

pub row-requires : goal.row-requires
row-requires c = (width_fits (frame_term c.args.frame.now) c.requires c.loop-prop.prop (omega arith)).1

use Rattle.std.proofs.Common.{arith}
use Rattle.svr_frame.specs.Frame.{frame_term}
use Rattle.svr_draw.proofs.Widths.{width_fits}
use Rattle.svr_draw.proofs.assignment.drawn_scalars.Goals as goal

pub next_scalar-number-requires-clause-low : goal.next_scalar-number-requires-clause-low
next_scalar-number-requires-clause-low c = (width_fits (frame_term c.args.frame.now) c.requires.sound c.loop-prop.prop (omega arith)).0

pub next_scalar-number-requires-clause-high : goal.next_scalar-number-requires-clause-high
next_scalar-number-requires-clause-high c = (width_fits (frame_term c.args.frame.now) c.requires.sound c.loop-prop.prop (omega arith)).1

use Rattle.std.proofs.Common.{◌≡◌, length, map}
use Rattle.svr_script.specs.Printed.{sizes_text}
use Rattle.svr_stream.specs.Puts.{place}
use Rattle.svr_stream.proofs.Rows.{HasLeft}
use Rattle.svr_printed.proofs.line.put_sizes.Given as goal

abbrev pub invariant-loop-props_left : goal.invariant-loop-props_left
invariant-loop-props_left g l = HasLeft (place (g.K.Sink.written l.initial.out) (g.K.Sink.faults l.initial.out) l.initial.text) (place (g.K.Sink.written l.out) (g.K.Sink.faults l.out) l.text)
    (sizes_text l.props l.free l.sizes) (sizes_text l.props_left l.free_left l.sizes_left)

abbrev pub decreases-loop-props_left : goal.decreases-loop-props_left
decreases-loop-props_left g l = length l.props_left

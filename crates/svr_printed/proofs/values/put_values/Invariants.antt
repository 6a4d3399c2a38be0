use Rattle.std.proofs.Common.{◌≡◌, length, map}
use Rattle.svr_script.specs.Printed.{values_text}
use Rattle.svr_stream.specs.Puts.{place}
use Rattle.svr_stream.proofs.Rows.{HasLeft}
use Rattle.svr_printed.proofs.values.put_values.Given as goal

abbrev pub invariant-loop-props_left : goal.invariant-loop-props_left
invariant-loop-props_left g l = HasLeft (place (g.K.Sink.written l.initial.out) (g.K.Sink.faults l.initial.out) l.initial.text) (place (g.K.Sink.written l.out) (g.K.Sink.faults l.out) l.text)
    (values_text l.enums l.props l.values) (values_text l.enums l.props_left l.values_left)

abbrev pub decreases-loop-props_left : goal.decreases-loop-props_left
decreases-loop-props_left g l = length l.props_left

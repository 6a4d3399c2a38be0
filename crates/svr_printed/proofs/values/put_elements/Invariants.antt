use Rattle.std.proofs.Common.{◌≡◌, length, map}
use Rattle.svr_script.specs.Printed.{with_commas, value_text}
use Rattle.svr_stream.specs.Puts.{place}
use Rattle.svr_stream.proofs.Rows.{HasLeft}
use Rattle.svr_printed.proofs.values.put_elements.Given as goal

abbrev pub invariant-loop-left : goal.invariant-loop-left
invariant-loop-left g l = HasLeft (place (g.K.Sink.written l.initial.out) (g.K.Sink.faults l.initial.out) l.initial.text) (place (g.K.Sink.written l.out) (g.K.Sink.faults l.out) l.text)
    (with_commas (map (value_text l.enums l.kind) l.numbers)) (with_commas (map (value_text l.enums l.kind) l.left))

abbrev pub decreases-loop-left : goal.decreases-loop-left
decreases-loop-left g l = length l.left

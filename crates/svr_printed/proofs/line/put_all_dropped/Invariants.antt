use Rattle.std.proofs.Common.{◌≡◌, ◌++◌, drop}
use Rattle.std.specs.List.{flat_map}
use Rattle.svr_script.specs.Printed.{dropped_text}
use Rattle.svr_stream.specs.Puts.{place}
use Rattle.svr_stream.proofs.Rows.{HasLeft}
use Rattle.svr_printed.proofs.line.put_all_dropped.Given as goal

abbrev pub invariant-loop-one : goal.invariant-loop-one
invariant-loop-one g l = HasLeft (place (g.K.Sink.written l.initial.out) (g.K.Sink.faults l.initial.out) l.initial.text) (place (g.K.Sink.written l.out) (g.K.Sink.faults l.out) l.text)
    (flat_map dropped_text l.dropped) (flat_map dropped_text (drop l.one-index l.dropped))

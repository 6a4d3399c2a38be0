use Rattle.std.proofs.Common.{◌≡◌, ◌++◌, drop}
use Rattle.std.specs.List.{flat_map}
use Rattle.svr_frame.specs.Frame.{frame_term}
use Rattle.svr_script.specs.Printed.{cycle_text}
use Rattle.svr_stream.specs.Puts.{place}
use Rattle.svr_stream.proofs.Rows.{HasLeft}
use Rattle.svr_printed.proofs.line.put_cycles.Given as goal

abbrev pub invariant-loop-renewed : goal.invariant-loop-renewed
invariant-loop-renewed g l = HasLeft (place (g.K.Sink.written l.initial.out) (g.K.Sink.faults l.initial.out) l.initial.text) (place (g.K.Sink.written l.out) (g.K.Sink.faults l.out) l.text)
    (flat_map (cycle_text (frame_term l.frame)) l.cycles) (flat_map (cycle_text (frame_term l.frame)) (drop l.renewed-index l.cycles))

use Rattle.std.proofs.Common.{drop}
use Rattle.std.specs.List.{flat_map}
use Rattle.svr_token.specs.Names.{names_of}
use Rattle.svr_stream.specs.Puts.{place}
use Rattle.svr_stream.proofs.Rows.{HasLeft}
use Rattle.svr_seq_lines.specs.Lines.{spaced}
use Rattle.svr_seq_lines.proofs.line.put_names.Given as goal

abbrev pub invariant-loop-token : goal.invariant-loop-token
invariant-loop-token g l = HasLeft (place (g.K.Sink.written l.initial.out) (g.K.Sink.faults l.initial.out) l.initial.text) (place (g.K.Sink.written l.out) (g.K.Sink.faults l.out) l.text)
    (flat_map (spaced (names_of l.names)) l.printed) (flat_map (spaced (names_of l.names)) (drop l.token-index l.printed))

use Rattle.std.proofs.Common.{◌≡◌, ◌++◌, drop}
use Rattle.std.specs.List.{flat_map}
use Rattle.svr_frame.specs.Frame.{frame_term}
use Rattle.svr_call.specs.declared.outcome.Dropped.{Dropped}
use Rattle.svr_script.specs.ProofText.{proof_text}
use Rattle.svr_stream.specs.Puts.{place}
use Rattle.svr_stream.proofs.Rows.{HasLeft}
use Rattle.svr_printed.proofs.certificate.put_drop_proofs.Given as goal

abbrev pub invariant-loop-one : goal.invariant-loop-one
invariant-loop-one g l = HasLeft (place (g.K.Sink.written l.initial.out) (g.K.Sink.faults l.initial.out) l.initial.text) (place (g.K.Sink.written l.out) (g.K.Sink.faults l.out) l.text)
    (flat_map (λ (d : Dropped). proof_text (frame_term l.frame) l.encodings d.proof) l.dropped) (flat_map (λ (d : Dropped). proof_text (frame_term l.frame) l.encodings d.proof) (drop l.one-index l.dropped))

use Rattle.std.proofs.Common.{◌≡◌, ◌++◌, drop}
use Rattle.svr_frame.specs.Frame.{frame_term}
use Rattle.svr_script.specs.ProofText.{proofs_text}
use Rattle.svr_stream.specs.Puts.{place}
use Rattle.svr_stream.proofs.Rows.{HasLeft}
use Rattle.svr_printed.proofs.proof.put_proofs.Given as goal

abbrev pub invariant-loop-proof : goal.invariant-loop-proof
invariant-loop-proof g l = HasLeft (place (g.K.Sink.written l.initial.out) (g.K.Sink.faults l.initial.out) l.initial.text) (place (g.K.Sink.written l.out) (g.K.Sink.faults l.out) l.text)
    (proofs_text (frame_term l.frame) l.encodings l.proofs) (proofs_text (frame_term l.frame) l.encodings (drop l.proof-index l.proofs))

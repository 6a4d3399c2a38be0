use Rattle.std.proofs.Common.{◌≡◌, length, map}
use Rattle.svr_vector.specs.Places.{rows}
use Rattle.svr_frame.specs.Frame.{frame_term}
use Rattle.svr_script.specs.ProofText.{bits_text}
use Rattle.svr_stream.specs.Puts.{place}
use Rattle.svr_stream.proofs.Rows.{HasLeft}
use Rattle.svr_printed.proofs.proof.put_bits.Given as goal

abbrev pub invariant-loop-slots_left : goal.invariant-loop-slots_left
invariant-loop-slots_left g l = HasLeft (place (g.K.Sink.written l.initial.out) (g.K.Sink.faults l.initial.out) l.initial.text) (place (g.K.Sink.written l.out) (g.K.Sink.faults l.out) l.text)
    (bits_text (frame_term l.frame) l.slots (rows l.bits)) (bits_text (frame_term l.frame) l.slots_left (rows l.bits_left))

abbrev pub decreases-loop-slots_left : goal.decreases-loop-slots_left
decreases-loop-slots_left g l = length l.slots_left

use Rattle.std.proofs.Common.{◌≡◌, ◌++◌, drop}
use Rattle.svr_script.specs.Derived.{all_derived}
use Rattle.svr_frame.specs.Frame.{frame_term}
use Rattle.svr_stream.specs.Puts.{place}
use Rattle.svr_derived.proofs.Fronts.{HasGone}
use Rattle.svr_derived.proofs.derivations.put_each.Given as goal

abbrev pub invariant-loop-proof : goal.invariant-loop-proof
invariant-loop-proof g l = HasGone (place (g.K.Sink.written l.initial.out) (g.K.Sink.faults l.initial.out) l.initial.text) (place (g.K.Sink.written l.out) (g.K.Sink.faults l.out) l.text)
    (all_derived (frame_term l.frame) l.encodings l.proofs) (all_derived (frame_term l.frame) l.encodings (drop l.proof-index l.proofs))

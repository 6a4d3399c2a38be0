use Rattle.std.proofs.Common.{◌≡◌, ◌++◌, drop}
use Rattle.std.specs.List.{flat_map}
use Rattle.svr_phase.specs.declared.proof.Renewed.{Renewed}
use Rattle.svr_script.specs.Derived.{all_derived}
use Rattle.svr_frame.specs.Frame.{frame_term}
use Rattle.svr_stream.specs.Puts.{place}
use Rattle.svr_derived.proofs.Fronts.{HasGone}
use Rattle.svr_derived.proofs.derivations.put_cycles.Given as goal

abbrev pub invariant-loop-renewed : goal.invariant-loop-renewed
invariant-loop-renewed g l = HasGone (place (g.K.Sink.written l.initial.out) (g.K.Sink.faults l.initial.out) l.initial.text) (place (g.K.Sink.written l.out) (g.K.Sink.faults l.out) l.text)
    (flat_map (λ (r : Renewed). all_derived (frame_term l.frame) l.encodings r.proofs) l.cycles) (flat_map (λ (r : Renewed). all_derived (frame_term l.frame) l.encodings r.proofs) (drop l.renewed-index l.cycles))

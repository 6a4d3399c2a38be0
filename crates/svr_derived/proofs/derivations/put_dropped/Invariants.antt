use Rattle.std.proofs.Common.{◌≡◌, ◌++◌, drop}
use Rattle.std.specs.List.{flat_map}
use Rattle.svr_call.specs.declared.outcome.Dropped.{Dropped}
use Rattle.svr_script.specs.Derived.{derived_text}
use Rattle.svr_frame.specs.Frame.{frame_term}
use Rattle.svr_stream.specs.Puts.{place}
use Rattle.svr_derived.proofs.Fronts.{HasGone}
use Rattle.svr_derived.proofs.derivations.put_dropped.Given as goal

abbrev pub invariant-loop-one : goal.invariant-loop-one
invariant-loop-one g l = HasGone (place (g.K.Sink.written l.initial.out) (g.K.Sink.faults l.initial.out) l.initial.text) (place (g.K.Sink.written l.out) (g.K.Sink.faults l.out) l.text)
    (flat_map (λ (d : Dropped). derived_text (frame_term l.frame) l.encodings d.proof) l.dropped) (flat_map (λ (d : Dropped). derived_text (frame_term l.frame) l.encodings d.proof) (drop l.one-index l.dropped))

use Rattle.std.proofs.Common.{◌≡◌}
use Rattle.svr_frame.specs.Frame.{frame_term}
use Rattle.svr_frame.specs.Weight.{capped}
use Rattle.svr_weight.specs.Weighing as spec
use Rattle.svr_weight.proofs.phase.weight.Given as goal

abbrev pub invariant-loop-prop : goal.invariant-loop-prop
invariant-loop-prop l = l.sum ≡ capped (spec.properties_weight (frame_term l.frame) l.part l.sizes l.prop)

use Rattle.std.proofs.Common.{◌≡◌, false, map, take}
use Rattle.svr_frame_of.proofs.object.none_of.Given as goal

abbrev pub invariant-loop-prop : goal.invariant-loop-prop
invariant-loop-prop l = l.random ≡ map (λ p. false) (take l.prop-index l.props)

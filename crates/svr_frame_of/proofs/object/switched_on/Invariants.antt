use Rattle.std.proofs.Common.{◌≡◌, ◌++◌, drop}
use Rattle.svr_world.specs.World.{object_of}
use Rattle.svr_frame.specs.Making.{switched_on}
use Rattle.svr_frame_of.proofs.object.switched_on.Given as goal

abbrev pub invariant-loop-place : goal.invariant-loop-place
invariant-loop-place l = l.random ++ switched_on (drop l.place l.props) (drop l.place (object_of l.world l.object).rand_modes) ≡ switched_on l.props (object_of l.world l.object).rand_modes

use Rattle.std.proofs.Common.{sym, subst}
use Rattle.svr_typed.specs.ClassTerm.{FlatTerm}
use Rattle.svr_world.specs.Fits.{AreSmall}
use Rattle.svr_frame_of_tests.proofs.Sound.{sample_is_small}
use Rattle.svr_frame_of_tests.proofs.frames.world.Goals as goal

pub make-requires : goal.make-requires
make-requires c = subst (λ (x : FlatTerm). AreSmall x.props) (sym c.requires.class) sample_is_small

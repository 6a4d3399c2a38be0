use Rattle.std.proofs.Common.{◌≤◌, sym, subst, length}
use Rattle.svr_limits.specs.declared.limit.TheConstants.{PROPERTY_LIMIT}
use Rattle.svr_frame.specs.Frame.{FrameTerm}
use Rattle.svr_expand_tests.proofs.Sound.{sample_is_sound}
use Rattle.svr_expand_tests.proofs.expansion.are_found.Goals as goal

pub unknowns-found-requires : goal.unknowns-found-requires
unknowns-found-requires c = subst (λ (f : FrameTerm). length f.class.props ≤ PROPERTY_LIMIT) (sym c.requires) sample_is_sound.properties

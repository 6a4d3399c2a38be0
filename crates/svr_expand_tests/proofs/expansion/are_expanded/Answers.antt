use Rattle.std.proofs.Common.{sym, subst, ◌∷◌, []}
use Rattle.svr_frame.specs.Frame.{FrameTerm}
use Rattle.svr_frame.specs.Sound.{IsSound, SizesFit}
use Rattle.svr_expand_tests.proofs.Sound.{sample_is_sound, sample_sizes_fit}
use Rattle.svr_expand_tests.proofs.expansion.are_expanded.Goals as goal

pub expand-found-requires-clause-sound : goal.expand-found-requires-clause-sound
expand-found-requires-clause-sound c = subst IsSound (sym c.requires) sample_is_sound

pub expand-found-requires-clause-fit : goal.expand-found-requires-clause-fit
expand-found-requires-clause-fit c = subst (λ (f : FrameTerm). SizesFit f (3 ∷ [])) (sym c.requires) sample_sizes_fit

use Rattle.std.proofs.Common.{sym, subst, ◌∷◌, []}
use Rattle.svr_frame.specs.Frame.{FrameTerm}
use Rattle.svr_frame.specs.Sound.{IsSound, SizesFit}
use Rattle.svr_draw.proofs.Sample.{sample_is_sound, sample_sizes_fit}
use Rattle.svr_call_tests.proofs.draws.preferred_at.Goals as goal

pub preferred-requires-clause-sound : goal.preferred-requires-clause-sound
preferred-requires-clause-sound c = subst IsSound (sym c.requires.sample) sample_is_sound

pub preferred-requires-clause-fit : goal.preferred-requires-clause-fit
preferred-requires-clause-fit c = subst (λ (f : FrameTerm). SizesFit f (1 ∷ c.args.size ∷ [])) (sym c.requires.sample) (sample_sizes_fit c.args.size c.requires.limit)

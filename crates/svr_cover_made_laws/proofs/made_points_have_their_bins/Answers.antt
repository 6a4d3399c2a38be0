use Rattle.svr_cover_made_laws.proofs.Planned.{have_planned}
use Rattle.svr_cover_made_laws.proofs.made_points_have_their_bins.Goals as goal

pub returns : goal.returns
returns c = λ text classes flats groups m h. have_planned text classes flats groups m h

use Rattle.svr_cover_made_laws.proofs.Apart.{are_apart}
use Rattle.svr_cover_made_laws.proofs.made_groups_are_apart.Goals as goal

pub returns : goal.returns
returns c = λ text classes flats groups m e l h. are_apart text classes flats groups m e l h

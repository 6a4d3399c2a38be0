use Rattle.svr_elab_lawful_laws.proofs.Places.{places_stand}
use Rattle.svr_elab_lawful_laws.proofs.law.places_stand.Goals as goal

pub returns : goal.returns
returns c = places_stand

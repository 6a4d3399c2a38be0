use Rattle.svr_flat.proofs.Flattened.{over_base, over_none}
use Rattle.svr_flat.proofs.laws.classes_stand_over_their_bases.Goals as goal

pub returns : goal.returns
returns c = record { derived = over_base; first = over_none }

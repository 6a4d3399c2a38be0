use Rattle.svr_settled_laws.proofs.UntouchedItems.{others_preferred}
use Rattle.svr_settled_laws.proofs.laws.unmentioned_unknowns_are_preferred.Goals as goal

pub returns : goal.returns
returns c = λ call choices sizes fates sound fit le cyclic found is meets. others_preferred call choices sizes sound fit cyclic fates le found is meets

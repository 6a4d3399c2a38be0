use Rattle.svr_settled_laws.proofs.UntouchedItems.{others}
use Rattle.svr_settled_laws.proofs.laws.unmentioned_unknowns_are_as_wanted.Goals as goal

pub returns : goal.returns
returns c = λ call sizes fates sound fit wanted found is_wanted is_found meets own. others call sizes fates sound fit wanted is_wanted found is_found meets own

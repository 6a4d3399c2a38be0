use Rattle.svr_query.proofs.Keeping.{number-low, number-there}
use Rattle.svr_query.proofs.needed.number_in.Goals as goal

pub returns-in_default : goal.returns-in_default
returns-in_default c = number-low c.args.clauses c.args.places.now c.args.number c.in_default.ensures.none

pub returns-in-Some-index_of : goal.returns-in-Some-index_of
returns-in-Some-index_of c = number-there c.args.clauses c.args.places.now c.args.number c.in-Some.place c.in-Some-index_of.index c.number_behind.result c.in-Some.ensures.some c.in-Some-index_of.ensures c.number_behind.ensures

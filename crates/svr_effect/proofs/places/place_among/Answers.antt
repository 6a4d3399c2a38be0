use Rattle.std.proofs.Common.{◌∙◌, sym}
use Rattle.svr_effect.proofs.Rows.{place_found, place_missing}
use Rattle.svr_effect.proofs.places.place_among.Goals as goal

pub returns-in-Some : goal.returns-in-Some
returns-in-Some c = place_found c.args.numbers.now.keys c.args.number c.in-Some.place (sym c.in-Some.is ∙ c.get_index_of.ensures.index)

pub returns-in-None : goal.returns-in-None
returns-in-None c = c.len.ensures.len ∙ place_missing c.args.numbers.now.keys c.args.number (sym c.in-None.is ∙ c.get_index_of.ensures.index)

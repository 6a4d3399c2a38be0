use Rattle.std.proofs.Common.{◌∙◌, sym}
use Rattle.svr_chain.proofs.MarkLemmas.{absent, at-same, walked-some, walked-none}
use Rattle.svr_chain.proofs.marks.place_of.Goals as goal

pub returns-in_default-clause-some : goal.returns-in_default-clause-some
returns-in_default-clause-some c = walked-some c.args.lits.now c.args.lit c.find.result c.find.ensures

pub returns-in_default-clause-none : goal.returns-in_default-clause-none
returns-in_default-clause-none c = walked-none c.args.lits.now c.args.lit c.find.result c.find.ensures

pub returns-then-stands_at-clause-some : goal.returns-then-stands_at-clause-some
returns-then-stands_at-clause-some c = at-same c.args.lits.now c.in-Some.place c.args.lit c.args.lit (sym c.stands_at.ensures ∙ c.if-stands_at.true)

pub returns-else-stands_at-clause-none : goal.returns-else-stands_at-clause-none
returns-else-stands_at-clause-none c =
    absent c.args.places.now c.args.lits.now c.args.lit c.in-Some.place c.requires c.in-Some.ensures (sym c.stands_at.ensures ∙ c.if-stands_at.false)

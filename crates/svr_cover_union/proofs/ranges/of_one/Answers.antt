use Rattle.std.proofs.Common.{ap, ◌∙◌}
use Rattle.std.proofs.lemmas.Result.{IfOk-weaker}
use Rattle.svr_cover_union.specs.Union.{hits_of}
use Rattle.svr_cover_union.proofs.Made.{nothing_from, bin_from}
use Rattle.svr_cover_union.proofs.ranges.of_one.Goals as goal

pub returns-in-None : goal.returns-in-None
returns-in-None c = λ v lt. nothing_from c.args.from v c.args.bins.now c.nothing.result c.nothing.ensures c.in-None.ensures.cases

pub returns-in-Some : goal.returns-in-Some
returns-in-Some c =
    IfOk-weaker c.of_ranges.result _ _
    (λ r h v lt. h v lt ∙ ap (λ z. hits_of c.args.from z v) c.as_slice.ensures ∙ bin_from c.args.from v c.args.bins.now c.in-Some.ranges.now c.in-Some._others.now c.in-Some.ensures.cases.0 c.requires)
    c.of_ranges.ensures

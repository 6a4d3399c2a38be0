use Rattle.std.proofs.Common.{◌∙◌}
use Rattle.std.proofs.lemmas.Result.{IfOk-weaker}
use Rattle.svr_cover_union.proofs.Made.{nothing_of, range_of}
use Rattle.svr_cover_union.proofs.ranges.of_few.Goals as goal

pub returns-in-None : goal.returns-in-None
returns-in-None c = λ v lt. nothing_of c.args.bin v c.args.ranges.now c.nothing.result c.nothing.ensures c.in-None.ensures.cases

pub returns-in-Some : goal.returns-in-Some
returns-in-Some c =
    IfOk-weaker c.of_range.result _ _
    (λ r h v lt. h v lt ∙ range_of c.args.bin v c.args.ranges.now c.in-Some.range.now c.in-Some._others.now c.in-Some.ensures.cases.0 c.requires)
    c.of_range.ensures

use Rattle.std.proofs.Common.{◌++◌}
use Rattle.std.proofs.lemmas.Result.{err_from_is_err_and}
use Rattle.svr_refusal.specs.declared.refusal.Refusal.TheVariants.{TooManyBins}
use Rattle.svr_cover_checked.specs.Numbers.{unless}
use Rattle.svr_cover_checked.specs.Refusals.{head_refusals, tuples_from, tuples_fit, points_refusals}
use Rattle.svr_cover_checked.specs.Seen.{seen}
use Rattle.svr_cover_checked.proofs.Walks.{first-append}
use Rattle.svr_cover_checked.proofs.parts.About.check_cross.Goals as goal

pub returns-in_err-check_head : goal.returns-in_err-check_head
returns-in_err-check_head c =
    let q = err_from_is_err_and c.from_residual.result c.from_residual.ensures.1 in
    let g = seen c.args.self.now in
    rw (q.1, q.2)
    (first-append (head_refusals g c.args.at c.args.name) (unless (tuples_fit (tuples_from g c.args.at 1 c.args.points.now) c.args.total) TooManyBins c.args.name ++ points_refusals g c.args.at c.args.points.now)
    c.in_err-check_head.field-0.0 c.in_err-check_head.ensures)

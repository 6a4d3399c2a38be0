use Rattle.std.proofs.Common.{◌++◌, refl}
use Rattle.std.proofs.lemmas.Result.{err_from_is_err_and}
use Rattle.svr_cover_checked.specs.Refusals.{head_refusals, names_refusals, all_bins_refusals, point_refusals}
use Rattle.svr_cover_checked.specs.Seen.{seen}
use Rattle.svr_cover_checked.proofs.Walks.{first-some, first-back}
use Rattle.svr_cover_checked.proofs.parts.About.check_point.Goals as goal

pub returns-in_err-check_head : goal.returns-in_err-check_head
returns-in_err-check_head c =
    let q = err_from_is_err_and c.from_residual.result c.from_residual.ensures.1 in
    let g = seen c.args.self.now in
    rw (q.1, q.2)
    (first-some c.in_err-check_head.field-0.0 (point_refusals g c.args.at c.args.name c.args.formal c.args.prop c.args.bins.now) (head_refusals g c.args.at c.args.name)
    (names_refusals g c.args.formal c.args.prop ++ all_bins_refusals g.text c.args.bins.now) refl c.in_err-check_head.ensures)

pub returns-in_err-check_names : goal.returns-in_err-check_names
returns-in_err-check_names c =
    let q = err_from_is_err_and c.from_residual-in_err-check_names.result c.from_residual-in_err-check_names.ensures.1 in
    let g = seen c.args.self.now in
    let names = names_refusals g c.args.formal c.args.prop in
    let bins = all_bins_refusals g.text c.args.bins.now in
    rw (q.1, q.2)
    (first-back c.in_err-check_names.field-0.0 (point_refusals g c.args.at c.args.name c.args.formal c.args.prop c.args.bins.now) (head_refusals g c.args.at c.args.name) (names ++ bins) refl c.in_ok-check_head.ensures
    (first-some c.in_err-check_names.field-0.0 (names ++ bins) names bins refl c.in_err-check_names.ensures))

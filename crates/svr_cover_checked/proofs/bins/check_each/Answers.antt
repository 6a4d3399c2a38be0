use Rattle.std.proofs.Common.{suc, [], refl}
use Rattle.std.proofs.lemmas.Result.{err_from_is_err_and}
use Rattle.std.proofs.lemmas.List.{nil_from_length}
use Rattle.svr_token.specs.Names.{names_of}
use Rattle.svr_cover_checked.specs.Refusals.{count_behind, one_refusals, bins_refusals}
use Rattle.svr_cover_checked.specs.Tables.{found_in}
use Rattle.svr_cover_checked.proofs.Walks.{stop-first, at-end}
use Rattle.svr_cover_checked.proofs.bins.check_each.Goals as goal

pub returns-in_err-check_one : goal.returns-in_err-check_one
returns-in_err-check_one c =
    let q = err_from_is_err_and c.from_residual.result c.from_residual.ensures.1 in
    let text = names_of c.args.places.now.names in
    let find = found_in c.args.places.now.table.now.entries in
    let x = c.in-Some.one.now in
    rw (q.1, q.2)
    (stop-first (bins_refusals text find c.bins.at c.bins.count) (bins_refusals text find 0 0 c.args.bins.now) (one_refusals text find c.bins.at c.bins.count x) (bins_refusals text find (suc c.bins.at) (count_behind text c.bins.count x) c.in-Some.others.now)
    c.bins.left.now x c.in-Some.others.now c.in_err-check_one.field-0.0 c.in-Some.ensures.cases.0 refl c.bins.invariant.refused c.in_err-check_one.ensures)

pub returns : goal.returns
returns c =
    let l = nil_from_length c.bins.left.now c.in_default.ensures.cases in
    let text = names_of c.args.places.now.names in
    let find = found_in c.args.places.now.table.now.entries in
    at-end (bins_refusals text find c.bins.at c.bins.count) (bins_refusals text find 0 0 c.args.bins.now) [] c.bins.left.now l refl c.bins.invariant.refused

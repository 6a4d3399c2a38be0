use Rattle.std.proofs.Common.{suc, [], length, refl}
use Rattle.std.proofs.lemmas.Result.{err_from_is_err_and}
use Rattle.std.proofs.lemmas.List.{nil_from_length}
use Rattle.svr_token.specs.Names.{names_of}
use Rattle.svr_cover_checked.specs.Refusals.{group_of, parts_total, group_refusals, groups_refusals}
use Rattle.svr_cover_checked.specs.Tables.{found_in}
use Rattle.svr_cover_checked.proofs.Walks.{next-place, next-refused, stop-refused, at-end}
use Rattle.svr_cover_checked.proofs.groups.check_each.Goals as goal

pub returns-in_err-total : goal.returns-in_err-total
returns-in_err-total c =
    let q = err_from_is_err_and c.from_residual.result c.from_residual.ensures.1 in
    let text = names_of c.args.places.now.names in
    let classes = c.args.classes.classes.now in
    let flats = c.args.classes.flats.now in
    let find = found_in c.args.places.now.table.now.entries in
    let x = c.in-Some.group.now in
    rw (q.1, q.2)
    (stop-refused (groups_refusals text classes flats find c.groups.at c.groups.total) (groups_refusals text classes flats find 0 0 c.args.groups.now) (group_refusals text classes flats find c.groups.at c.groups.total x)
    (groups_refusals text classes flats find (suc c.groups.at) (parts_total (group_of text classes flats x) 0 c.groups.total x.parts) c.in-Some.others.now)
    c.groups.left.now x c.in-Some.others.now c.in_err-total.field-0.0 c.in-Some.ensures.cases.0 refl c.groups.invariant.refused c.in_err-total.ensures)

pub groups-preserved : goal.groups-preserved
groups-preserved c =
    let text = names_of c.args.places.now.names in
    let classes = c.args.classes.classes.now in
    let flats = c.args.classes.flats.now in
    let find = found_in c.args.places.now.table.now.entries in
    let x = c.in-Some.group.now in
    record {
      place = next-place c.groups.at (length c.args.groups.now) c.groups.left.now x c.in-Some.others.now c.in-Some.ensures.cases.0 c.groups.invariant.place;
      refused = next-refused (groups_refusals text classes flats find) (groups_refusals text classes flats find 0 0 c.args.groups.now) (group_refusals text classes flats find c.groups.at c.groups.total x)
          c.groups.at c.groups.total c.in_ok-total.total (parts_total (group_of text classes flats x) 0 c.groups.total x.parts)
          c.groups.left.now x c.in-Some.others.now c.in-Some.ensures.cases.0 refl c.in_ok-total.ensures.1 c.groups.invariant.refused c.in_ok-total.ensures.0;
    }

pub returns : goal.returns
returns c =
    let l = nil_from_length c.groups.left.now c.in_default.ensures.cases in
    let text = names_of c.args.places.now.names in
    let find = found_in c.args.places.now.table.now.entries in
    at-end (groups_refusals text c.args.classes.classes.now c.args.classes.flats.now find c.groups.at c.groups.total) (groups_refusals text c.args.classes.classes.now c.args.classes.flats.now find 0 0 c.args.groups.now) [] c.groups.left.now l refl c.groups.invariant.refused

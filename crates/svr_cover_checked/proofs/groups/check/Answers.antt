use Rattle.std.proofs.Common.{[], map, ap, ◌∙◌}
use Rattle.std.proofs.lemmas.Result.{err_from_is_err_and}
use Rattle.svr_token.specs.Names.{names_of}
use Rattle.svr_cover_checked.specs.Places.{entries}
use Rattle.svr_cover_checked.specs.Refusals.{group_name, refusals}
use Rattle.svr_cover_checked.proofs.Inside.{groups-checked}
use Rattle.svr_cover_checked.proofs.Named.{finds}
use Rattle.svr_cover_checked.proofs.Walks.{first-memory}
use Rattle.svr_cover_checked.proofs.groups.check.Goals as goal

pub returns-in_err-tokens : goal.returns-in_err-tokens
returns-in_err-tokens c =
    let q = err_from_is_err_and c.from_residual.result c.from_residual.ensures.1 in
    rw (q.1, q.2) (first-memory c.in_err-tokens.field-0.0 (refusals (names_of c.args.names) c.args.classes.now c.args.flats.now c.args.groups.now) c.in_err-tokens.ensures.memory)

pub returns-in_err-table : goal.returns-in_err-table
returns-in_err-table c =
    let q = err_from_is_err_and c.from_residual-in_err-table.result c.from_residual-in_err-table.ensures.1 in
    rw (q.1, q.2) (first-memory c.in_err-table.field-0.0 (refusals (names_of c.args.names) c.args.classes.now c.args.flats.now c.args.groups.now) c.in_err-table.ensures.memory)

pub returns : goal.returns
returns c =
    let text = names_of c.args.names in
    let table = c.in_ok-table.ensures.table ∙ ap (entries text [] 0) (c.as_slice.ensures ∙ c.in_ok-tokens.ensures.names) in
    groups-checked text c.args.classes.now c.args.flats.now c.args.groups.now _ c.check_each.result (finds text c.in_ok-table.table.entries (map group_name c.args.groups.now) table) c.check_each.ensures

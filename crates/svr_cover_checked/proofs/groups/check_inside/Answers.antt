use Rattle.std.proofs.Common.{[], map, ap, ◌∙◌}
use Rattle.std.proofs.lemmas.Result.{err_from_is_err_and}
use Rattle.svr_token.specs.Names.{names_of}
use Rattle.svr_cover_checked.specs.Places.{entries}
use Rattle.svr_cover_checked.specs.Refusals.{part_name, part_count, group_of, parts_refusals}
use Rattle.svr_cover_checked.specs.Tables.{found_in}
use Rattle.svr_cover_checked.proofs.Inside.{group-is, checked-as}
use Rattle.svr_cover_checked.proofs.Named.{finds}
use Rattle.svr_cover_checked.proofs.Walks.{first-memory}
use Rattle.svr_cover_checked.proofs.groups.check_inside.Goals as goal

pub returns-in_err-tokens : goal.returns-in_err-tokens
returns-in_err-tokens c =
    let q = err_from_is_err_and c.from_residual.result c.from_residual.ensures.1 in
    let g = group_of (names_of c.args.names) c.args.classes.classes.now c.args.classes.flats.now c.args.group.now in
    rw (q.1, q.2) (first-memory c.in_err-tokens.field-0.0 (parts_refusals g 0 c.args.total c.args.group.now.parts) c.in_err-tokens.ensures.memory)

pub returns-in_err-table : goal.returns-in_err-table
returns-in_err-table c =
    let q = err_from_is_err_and c.from_residual-in_err-table.result c.from_residual-in_err-table.ensures.1 in
    let g = group_of (names_of c.args.names) c.args.classes.classes.now c.args.classes.flats.now c.args.group.now in
    rw (q.1, q.2) (first-memory c.in_err-table.field-0.0 (parts_refusals g 0 c.args.total c.args.group.now.parts) c.in_err-table.ensures.memory)

pub returns-in_err-counts : goal.returns-in_err-counts
returns-in_err-counts c =
    let q = err_from_is_err_and c.from_residual-in_err-counts.result c.from_residual-in_err-counts.ensures.1 in
    let g = group_of (names_of c.args.names) c.args.classes.classes.now c.args.classes.flats.now c.args.group.now in
    rw (q.1, q.2) (first-memory c.in_err-counts.field-0.0 (parts_refusals g 0 c.args.total c.args.group.now.parts) c.in_err-counts.ensures.memory)

pub returns : goal.returns
returns c =
    let text = names_of c.args.names in
    let x = c.args.group.now in
    let table = c.in_ok-table.ensures.table ∙ ap (entries text [] 0) (c.as_slice.ensures ∙ c.in_ok-tokens.ensures.names ∙ ap (map part_name) c.as_slice-parts.ensures) in
    let counts = c.as_slice-2.ensures ∙ c.in_ok-counts.ensures.counts ∙ ap (map (part_count text)) c.as_slice-parts.ensures in
    checked-as _ (group_of text c.args.classes.classes.now c.args.classes.flats.now x) c.args.total _ x.parts c.check_parts.result
    (group-is text c.args.classes.classes.now c.args.classes.flats.now x (found_in c.in_ok-table.table.entries) c.props_of.result.now c.as_slice-2.result.now c.args.class
    (finds text c.in_ok-table.table.entries (map part_name x.parts) table) c.props_of.ensures c.requires counts)
    c.as_slice-parts.ensures c.check_parts.ensures

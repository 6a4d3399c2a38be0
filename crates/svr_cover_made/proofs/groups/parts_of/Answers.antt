use Rattle.std.proofs.Common.{◌≡◌, [], map, ap, ◌∙◌}
use Rattle.std.proofs.lemmas.Result.{IfOk-at_ok}
use Rattle.svr_token.specs.Names.{names_of}
use Rattle.svr_cover_checked.specs.Places.{entries}
use Rattle.svr_cover_checked.specs.Refusals.{part_name, part_count}
use Rattle.svr_cover_checked.specs.Tables.{entry_of, found_in}
use Rattle.svr_cover_checked.proofs.Named.{finds}
use Rattle.svr_cover_made.specs.Plan.{ranks, about_of}
use Rattle.svr_cover_made.proofs.Inside.{about-is, parts-as}
use Rattle.svr_cover_made.proofs.groups.parts_of.Goals as goal

pub returns : goal.returns
returns c =
    let text = names_of c.args.names in
    let x = c.args.group.now in
    let tokens = IfOk-at_ok (λ ns. ns ≡ map part_name c.as_slice-parts.result.now) c.in_ok-tokens.ensures c.part_names.ensures.names in
    let table =
    IfOk-at_ok (λ m. map entry_of m.entries ≡ entries text [] 0 c.as_slice.result.now) c.in_ok-table.ensures c.places_of.ensures.table
    ∙ ap (entries text [] 0) (c.as_slice.ensures ∙ tokens ∙ ap (map part_name) c.as_slice-parts.ensures)
    in
    let counts = IfOk-at_ok (λ ns. ns ≡ map (part_count text) c.as_slice-parts.result.now) c.in_ok-counts.ensures c.part_counts.ensures.counts in
    parts-as _ (about_of text c.args.props.now x) _ c.args.first _ x.parts c.all_parts.result
    (about-is text x (found_in c.in_ok-table.table.entries) c.args.props.now c.as_slice-2.result.now (finds text c.in_ok-table.table.entries (map part_name x.parts) table)
    (c.as_slice-2.ensures ∙ counts ∙ ap (map (part_count text)) c.as_slice-parts.ensures))
    (c.as_slice-3.ensures ∙ c.in_ok-before.ensures ∙ ap (ranks 0) c.as_slice-parts.ensures) c.as_slice-parts.ensures c.all_parts.ensures

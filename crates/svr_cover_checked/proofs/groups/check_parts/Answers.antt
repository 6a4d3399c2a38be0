use Rattle.std.proofs.Common.{suc, [], length, refl, sym}
use Rattle.std.proofs.lemmas.Result.{err_from_is_err_and}
use Rattle.std.proofs.lemmas.List.{nil_from_length}
use Rattle.svr_cover_checked.specs.Refusals.{part_refusals, parts_refusals, parts_total, total_behind}
use Rattle.svr_cover_checked.specs.Seen.{seen}
use Rattle.svr_cover_checked.proofs.Walks.{next-place, next-refused, next-counted, stop-refused, at-end}
use Rattle.svr_cover_checked.proofs.groups.check_parts.Goals as goal

pub returns-in_err-check_part : goal.returns-in_err-check_part
returns-in_err-check_part c =
    let q = err_from_is_err_and c.from_residual.result c.from_residual.ensures.1 in
    let g = seen c.args.about.now in
    let x = c.in-Some.part.now in
    rw (q.1, q.2)
    (stop-refused (parts_refusals g c.parts.at c.parts.sum) (parts_refusals g 0 c.args.total c.args.parts.now) (part_refusals g c.parts.at c.parts.sum x) (parts_refusals g (suc c.parts.at) (total_behind g c.parts.at c.parts.sum x) c.in-Some.others.now)
    c.parts.left.now x c.in-Some.others.now c.in_err-check_part.field-0.0 c.in-Some.ensures.cases.0 refl c.parts.invariant.refused c.in_err-check_part.ensures)

pub returns : goal.returns
returns c =
    let l = nil_from_length c.parts.left.now c.in_default.ensures.cases in
    let g = seen c.args.about.now in (
      at-end (parts_refusals g c.parts.at c.parts.sum) (parts_refusals g 0 c.args.total c.args.parts.now) [] c.parts.left.now l refl c.parts.invariant.refused,
      sym (at-end (parts_total g c.parts.at c.parts.sum) (parts_total g 0 c.args.total c.args.parts.now) c.parts.sum c.parts.left.now l refl c.parts.invariant.total),
    )

pub parts-preserved : goal.parts-preserved
parts-preserved c =
    let g = seen c.args.about.now in
    let x = c.in-Some.part.now in
    record {
      place = next-place c.parts.at (length c.args.parts.now) c.parts.left.now x c.in-Some.others.now c.in-Some.ensures.cases.0 c.parts.invariant.place;
      refused = next-refused (parts_refusals g) (parts_refusals g 0 c.args.total c.args.parts.now) (part_refusals g c.parts.at c.parts.sum x) c.parts.at c.parts.sum c.total_behind-sum.result (total_behind g c.parts.at c.parts.sum x)
          c.parts.left.now x c.in-Some.others.now c.in-Some.ensures.cases.0 refl c.total_behind-sum.ensures c.parts.invariant.refused c.in_ok-check_part.ensures;
      total = next-counted (parts_total g) (parts_total g 0 c.args.total c.args.parts.now) c.parts.at c.parts.sum c.total_behind-sum.result (total_behind g c.parts.at c.parts.sum x)
          c.parts.left.now x c.in-Some.others.now c.in-Some.ensures.cases.0 refl c.total_behind-sum.ensures c.parts.invariant.total;
    }

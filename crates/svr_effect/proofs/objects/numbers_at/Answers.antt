use Rattle.std.proofs.Common.{◌≡◌, map}
use Rattle.std.proofs.lemmas.List.{nil_from_length}
use Rattle.std.proofs.lemmas.Result.{IfOk-at_ok}
use Rattle.svr_effect.specs.Objects.{numbers_in}
use Rattle.svr_effect.proofs.Rows.{one_row, all_rows}
use Rattle.svr_effect.proofs.objects.numbers_at.Goals as goal

pub places-preserved : goal.places-preserved
places-preserved c =
    let f = numbers_in c.args.world.now in
    let more = c.in_ok-rows.ensures in
    one_row f c.places.rows c.in_ok-rows.rows (map f c.args.places.now) more.0 c.places.left.now c.in-Some.others.now c.in-Some.place.now more.2 (IfOk-at_ok (λ numbers. numbers ≡ f c.in-Some.place.now) more.1 c.numbers_in.ensures)
    c.in-Some.ensures.cases.0 c.places.invariant

pub returns : goal.returns
returns c =
    let f = numbers_in c.args.world.now in
    all_rows f c.places.rows (map f c.args.places.now) c.places.left.now (nil_from_length c.places.left.now c.in_default.ensures.cases) c.places.invariant

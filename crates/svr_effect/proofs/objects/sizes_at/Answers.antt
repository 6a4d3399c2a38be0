use Rattle.std.proofs.Common.{map}
use Rattle.std.proofs.lemmas.List.{nil_from_length}
use Rattle.svr_effect.specs.Objects.{size_in}
use Rattle.svr_effect.proofs.Rows.{one_row, all_rows}
use Rattle.svr_effect.proofs.objects.sizes_at.Goals as goal

pub places-preserved : goal.places-preserved
places-preserved c =
    let f = size_in c.args.world.now in
    one_row f c.places.sizes _ (map f c.args.places.now) c.size.result c.places.left.now c.in-Some.others.now c.in-Some.place.now c.in_ok-push.ensures.ok c.size.ensures.size c.in-Some.ensures.cases.0 c.places.invariant

pub returns : goal.returns
returns c =
    let f = size_in c.args.world.now in
    all_rows f c.places.sizes (map f c.args.places.now) c.places.left.now (nil_from_length c.places.left.now c.in_default.ensures.cases) c.places.invariant

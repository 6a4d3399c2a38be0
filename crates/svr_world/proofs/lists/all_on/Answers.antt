use Rattle.std.proofs.Common.{rules, ◌≡◌, ◌∙◌, true, length, replicate, refl}
use Rattle.std.proofs.lemmas.Simd.{splat_is_map}
use Rattle.svr_world.proofs.lists.all_on.Goals as goal

pub returns : goal.returns
returns g c =
    let on : c.in_ok-modes.modes.items ≡ replicate (length c.args.parts.now) true = search rules in
    on ∙ splat_is_map c.args.parts.now (length c.args.parts.now) true refl

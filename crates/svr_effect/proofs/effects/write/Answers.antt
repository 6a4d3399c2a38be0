use Rattle.std.proofs.Common.{◌≤◌, ℕ, Option, sym, ap, subst, ◌∙◌}
use Rattle.svr_effect.specs.Objects.{placed_at}
use Rattle.svr_effect.proofs.Written.{nothing_outside}
use Rattle.svr_effect.proofs.effects.write.Goals as goal

pub returns-then-place-from : goal.returns-then-place-from
returns-then-place-from c =
    let w = c.args.world.now in
    let far = subst (λ (n : ℕ). n ≤ c.in-Some.place) (c.from.ensures ∙ c.size.ensures.size) c.if-place-from.true in
    sym (ap (λ (m : Option ℕ). placed_at w c.args.object c.args.prop m c.args.value) c.in-Some.is ∙ nothing_outside w c.args.object c.args.prop c.in-Some.place c.args.value c.requires far)

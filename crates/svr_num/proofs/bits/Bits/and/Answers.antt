use Rattle.std.proofs.Common.{◌≡◌, ◌<◌, ◌^◌, subst, ℕ, ap, sym, ◌∙◌}
use Rattle.std.specs.Int.Bits.{and_lt}
use Rattle.svr_num.specs.Num.{Word}
use Rattle.svr_num.proofs.bits.Bits.and.Goals as goal

pub invariant_of-result : goal.invariant_of-result
invariant_of-result c =
    let e : c.other.inside.width ≡ c.self.inside.width = ap (λ (w : Word). w.width) c.other.view_is ∙ c.requires ∙ sym (ap (λ (w : Word). w.width) c.self.view_is) in
    (c.self.invariant.0, c.self.invariant.1, and_lt c.self.inside.width c.self.inside.value c.other.inside.value c.self.invariant.2 (subst (λ (w : ℕ). c.other.inside.value < 2 ^ w) e c.other.invariant.2))

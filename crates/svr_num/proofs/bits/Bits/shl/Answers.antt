use Rattle.std.proofs.Common.{◌∙◌, ap, sym, arith, ◌^◌, ℕ}
use Rattle.std.proofs.Math.Nat.{zero-mod}
use Rattle.svr_num.proofs.NumLemmas.{past}
use Rattle.svr_num.proofs.bits.Bits.shl.Goals as goal

pub returns-then-by-ge64 : goal.returns-then-by-ge64
returns-then-by-ge64 c =
    rw (← c.self.view_is)
    (c.wrap.ensures ∙ ap (λ (n : ℕ). record { value = n; width = c.self.inside.width }) (zero-mod (2 ^ c.self.inside.width) ∙ sym (past c.self.inside.value c.args.by c.self.inside.width (omega (arith, c.if-by-ge64.true, c.self.invariant.1)))))

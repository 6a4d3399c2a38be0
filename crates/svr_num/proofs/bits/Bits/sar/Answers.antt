use Rattle.std.proofs.Common.{◌≡◌, ℤ, ◌∙◌, ap, sym}
use Rattle.svr_num.specs.Num.{Word, residue, signed_of}
use Rattle.svr_num.proofs.NumLemmas.{sar_read}
use Rattle.svr_num.proofs.bits.Bits.sar.Goals as goal

pub returns : goal.returns
returns c =
    let w = c.self.inside.width in
    let e : c.signed.result ≡ signed_of c.self.inside.width c.self.inside.value = c.signed.ensures ∙ ap (λ (x : Word). signed_of x.width x.value) (sym c.self.view_is) in
    rw (← c.self.view_is)
    (c.wrap_signed.ensures ∙ ap (λ (z : ℤ). record { value = residue c.self.inside.width z; width = c.self.inside.width })
    (sar_read c.self.inside.width c.self.inside.value c.args.by c.min.result c.signed.result c.self.invariant e c.min.ensures))

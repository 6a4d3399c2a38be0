use Rattle.std.proofs.Common.{◌≡◌, ℕ, ◌∙◌, ◌<◌, ap, arith}
use Rattle.svr_num.specs.Num.{Word, signed_of}
use Rattle.svr_num.proofs.SignedLemmas.{rem_read}
use Rattle.svr_num.proofs.bits.Bits.rem.Goals as goal

pub returns-then-signed : goal.returns-then-signed
returns-then-signed c =
    let w = c.args.self.width in
    let v : c.self-then-signed.inside.width ≡ w = ap (λ (x : Word). x.width) c.self-then-signed.view_is in
    let some : 0 < c.args.other.value = omega (arith, c.if-other-eq0.false, ap (λ (x : Word). x.value) c.other.view_is) in
    let q = rem_read c.args.signed w c.args.self.value c.args.other.value c.signed.result c.signed-then-signed.result c.if-signed.true some
    c.signed.ensures (c.signed-then-signed.ensures ∙ ap (λ (z : ℕ). signed_of z c.args.other.value) c.requires)
    (record { sfits = c.signed.type_inv }) (record { sfits = c.signed-then-signed.type_inv }) in
    rw v at c.wrap_signed.ensures ∙ ap (λ (z : ℕ). record { value = z; width = w }) q

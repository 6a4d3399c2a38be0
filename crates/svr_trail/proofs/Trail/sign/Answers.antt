use Rattle.std.proofs.Common.{◌≡◌, ◌∙◌, ◌-◌, ◌<◌, false, ltb, length, arith, sym, ap}
use Rattle.std.proofs.lemmas.Bool.{false≢true, lt-ltb}
use Rattle.svr_trail.proofs.TableLemmas.{sign_at-outside}
use Rattle.svr_trail.proofs.Trail.sign.Goals as goal

pub returns-then-var-eq0 : goal.returns-then-var-eq0
returns-then-var-eq0 c =
    let k = c.self.invariant in
    let z = c.if-var-eq0.true in
    rw (← c.self.view_is) (sym (sign_at-outside (length c.self.inside.signs.items) c.self.inside.entries.items c.args.var k.table.within (λ w. omega (arith, w.0))))

pub returns-in_err-get : goal.returns-in_err-get
returns-in_err-get c =
    let signs = c.self.inside.signs.items in
    let k = c.self.invariant in
    let n : false ≡ ltb (c.args.var - 1) (length signs) = c.in_err-get.ensures.lookup.0 ∙ ap (λ z. ltb (c.args.var - 1) (length z)) c.as_slice-signs.ensures.value in
    rw (c.from_residual.ensures, ← c.self.view_is) (sym (sign_at-outside (length signs) c.self.inside.entries.items c.args.var k.table.within
    (λ w. let h : c.args.var - 1 < length signs = omega arith in absurd (false≢true (n ∙ lt-ltb (c.args.var - 1) (length signs) h)))))

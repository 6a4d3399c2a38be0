use Rattle.std.proofs.Common.{◌∙◌, sym, subst}
use Rattle.std.proofs.lemmas.List.Elements.{All-get_or}
use Rattle.svr_cyclic.specs.declared.single.Denied.{Denied}
use Rattle.svr_cyclic.specs.Denials.{IsDenied}
use Rattle.svr_cyclic.proofs.Denials.{denied_refutes}
use Rattle.svr_cyclic.proofs.single.denied_among.Goals as goal

pub returns-then-has_lit : goal.returns-then-has_lit
returns-then-has_lit c = λ ks front all.
    let x : Denied = c.one-item.result in
    let d = subst (λ (y : Denied). IsDenied ks front y) (sym c.one-item.is) (All-get_or (IsDenied ks front) c.args.denied.now c.loop-one.one-index x c.loop-one-test.true all) in
    denied_refutes ks front c.args.own.now x.lit x.refutation (sym c.has_lit.ensures ∙ c.if-has_lit.true) d

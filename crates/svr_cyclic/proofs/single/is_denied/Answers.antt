use Rattle.std.proofs.Common.{◌∙◌, sym}
use Rattle.svr_cyclic.proofs.Denials.{some_of}
use Rattle.svr_cyclic.proofs.single.is_denied.Goals as goal

pub returns : goal.returns
returns c = λ ks front all e.
    let r = some_of c.denied_among.result _ (c.denied_among.ensures ks front all) (sym c.is_some.ensures ∙ e) in
    (r.0.now, r.1)

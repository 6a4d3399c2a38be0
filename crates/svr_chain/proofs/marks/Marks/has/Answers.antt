use Rattle.std.proofs.Common.{◌≡◌, ◌∙◌, ap}
use Rattle.svr_chain.specs.Clauses.{has}
use Rattle.svr_chain.proofs.MarkLemmas.{held-some}
use Rattle.svr_chain.proofs.marks.Marks.has.Goals as goal

pub returns : goal.returns
returns c =
    let l : c.as_slice.result.now ≡ c.args.self.now = c.as_slice.ensures.value ∙ c.self.view_is in
    c.is_some.ensures ∙ (held-some c.as_slice.result.now c.args.lit c.place_of.result c.place_of.ensures.some c.place_of.ensures.none ∙ ap (λ z. has z c.args.lit) l)

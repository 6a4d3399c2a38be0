use Rattle.std.proofs.Common.{get_or, ap, ◌∙◌}
use Rattle.svr_chain.specs.Clauses.{has}
use Rattle.svr_lrat_judge.specs.Marks.{unmarked, side}
use Rattle.svr_lrat_judge.proofs.known.Known.has.Goals as goal

pub returns : goal.returns
returns c =
    c.has.ensures ∙ ap (λ s. side s c.args.lit.neg) (c.sides_at.ensures ∙ ap (λ m. get_or m c.args.lit.var unmarked) c.as_slice.ensures.value)
    ∙ c.self.invariant c.args.lit ∙ ap (λ z. has z c.args.lit) c.self.view_is

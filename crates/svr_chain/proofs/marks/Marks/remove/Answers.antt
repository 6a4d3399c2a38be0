use Rattle.std.proofs.Common.{◌&&◌, ◌∙◌, not, get_or, sym, ap}
use Rattle.svr_chain.specs.Clauses.{has, same_lit}
use Rattle.svr_chain.proofs.MarkLemmas.{has-without_none}
use Rattle.svr_chain.proofs.marks.Marks.remove.Goals as goal

pub returns-in_default : goal.returns-in_default
returns-in_default c = λ x.
    has-without_none c.args.self.now c.args.lit x (ap (λ z. has z c.args.lit) (sym (c.as_slice.ensures.value ∙ c.self.view_is)) ∙ c.in_default.ensures.none)

pub returns : goal.returns
returns c = λ x.
    c.take_out.ensures.left c.args.lit x (ap (λ z. get_or z c.in-Some.place c.args.lit) (sym c.as_slice.ensures.value) ∙ c.in-Some.ensures.some.1)
    ∙ ap (λ z. has z x && not (same_lit x c.args.lit)) c.self.view_is

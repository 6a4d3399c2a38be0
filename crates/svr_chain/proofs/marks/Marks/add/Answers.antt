use Rattle.std.proofs.Common.{◌∙◌, ◌||◌, sym, ap}
use Rattle.std.proofs.lemmas.Result.{on_ok_weaker}
use Rattle.svr_chain.specs.Clauses.{has, same_lit}
use Rattle.svr_chain.proofs.MarkLemmas.{has-again, has-put}
use Rattle.svr_chain.proofs.marks.Marks.add.Goals as goal

pub returns-then-has : goal.returns-then-has
returns-then-has c = λ x. has-again c.args.self.now c.args.lit x (sym c.has.ensures ∙ c.if-has.true)

pub put-requires-clause-new : goal.put-requires-clause-new
put-requires-clause-new c = ap (λ z. has z c.args.lit) c.self.view_is ∙ (sym c.has.ensures ∙ c.if-has.false)

pub returns : goal.returns
returns c =
    on_ok_weaker c.put.result
    (λ e x. ap (λ z. has z x) e ∙ (has-put c.self.inside.lits.items c.args.lit x ∙ ap (λ z. has z x || same_lit c.args.lit x) c.self.view_is))
    c.put.ensures.put

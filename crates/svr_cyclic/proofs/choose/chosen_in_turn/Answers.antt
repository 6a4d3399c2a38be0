use Rattle.std.proofs.Common.{length, ap, ◌∙◌}
use Rattle.std.proofs.lemmas.Result.{IfOk-weaker}
use Rattle.svr_cyclic.specs.Phase.{call_at}
use Rattle.svr_cyclic.proofs.Ended.{ended}
use Rattle.svr_cyclic.proofs.choose.chosen_in_turn.Goals as goal

pub encoded-requires : goal.encoded-requires
encoded-requires c = c.requires.sound

pub choose_all-requires-clause-prefer : goal.choose_all-requires-clause-prefer
choose_all-requires-clause-prefer c = ap (λ ls. length ls) c.as_slice-wishes.ensures.value ∙ c.in_ok-parts.ensures.prefer

pub returns-clause-ends : goal.returns-clause-ends
returns-clause-ends c =
    IfOk-weaker c.concluded.result _ _
    (λ x same.
    (ended (call_at c.args.call.now) c.requires.light c.in_ok-parts.parts.layout _ c.whole-given.result c.whole-given.ensures.encodes c.whole-given.ensures.layout (c.whole-given.ensures.clauses ∙ c.choose_all.ensures.same) c.in_ok-reached.reached x c.in_ok-reached.ensures.reached same).0)
    c.concluded.ensures

pub returns-clause-fits : goal.returns-clause-fits
returns-clause-fits c =
    IfOk-weaker c.concluded.result _ _
    (λ x same.
    (ended (call_at c.args.call.now) c.requires.light c.in_ok-parts.parts.layout _ c.whole-given.result c.whole-given.ensures.encodes c.whole-given.ensures.layout (c.whole-given.ensures.clauses ∙ c.choose_all.ensures.same) c.in_ok-reached.reached x c.in_ok-reached.ensures.reached same).1)
    c.concluded.ensures

use Rattle.std.proofs.Common.{sym, subst, ◌∙◌}
use Rattle.std.proofs.lemmas.Result.{IfOk-weaker}
use Rattle.svr_eval.specs.Reading.{reading_of}
use Rattle.svr_frame.specs.Frame.{frame_term}
use Rattle.svr_solution.specs.Calls.{call_in}
use Rattle.svr_randomize.specs.declared.answer.Answer.{Answer}
use Rattle.svr_randomize.specs.Answers.{FitsIfChanged}
use Rattle.svr_randomize.specs.Kept.{IsLeft}
use Rattle.svr_randomize.proofs.Answered.{told_of, one_preferred, asks}
use Rattle.svr_randomize.proofs.Changes.{numbers_fit}
use Rattle.svr_randomize.proofs.Keeping.{soft_many}
use Rattle.svr_randomize.proofs.values.decided.Goals as goal

pub are_met-requires-clause-wish : goal.are_met-requires-clause-wish
are_met-requires-clause-wish c = (c.args.chosen.values, c.requires.wish)

pub preferred_answer-answer-requires : goal.preferred_answer-answer-requires
preferred_answer-answer-requires c = c.requires.sound.properties

pub returns-then-are_met-clause-answer : goal.returns-then-are_met-clause-answer
returns-then-are_met-clause-answer c =
    let f = frame_term c.args.frame.now in
    let a = reading_of c.args.wanted.now in
    let long = c.soft_count-soft.ensures ∙ soft_many f c.args.sizes.now c.args.items c.requires.items in
    IfOk-weaker c.leaving.result _ _
    (λ r told used words cap le is wish reached.
    one_preferred (call_in f used words c.args.budget cap) c.args.chosen is c.args.sizes.now reached a wish (sym c.are_met.ensures ∙ c.if-are_met.true) c.soft_count-soft.result long r.answer
    (told_of c.preferred_answer-answer.result _ r.answer c.preferred_answer-answer.ensures told))
    c.leaving.ensures.answer

pub returns-then-are_met-clause-fits : goal.returns-then-are_met-clause-fits
returns-then-are_met-clause-fits c =
    let f = frame_term c.args.frame.now in
    IfOk-weaker c.leaving.result _ _
    (λ r told. subst (λ (x : Answer). FitsIfChanged (frame_term c.args.frame.now).class x.change)
    (sym (told_of c.preferred_answer-answer.result _ r.answer c.preferred_answer-answer.ensures told))
    (numbers_fit f c.args.sizes.now c.requires.sound c.requires.fit c.args.chosen.values (reading_of c.args.wanted.now) c.requires.wish c.args.chosen.used c.requires.used))
    c.leaving.ensures.answer

pub returns-then-are_met-clause-left : goal.returns-then-are_met-clause-left
returns-then-are_met-clause-left c =
    IfOk-weaker c.leaving.result _ _ (λ r left. subst (IsLeft (frame_term c.args.frame.now) c.args.sizes.now) (sym left) c.requires.items) c.leaving.ensures.left

pub returns-clause-answer : goal.returns-clause-answer
returns-clause-answer c =
    let f = frame_term c.args.frame.now in
    let a = reading_of c.args.wanted.now in
    IfOk-weaker c.asked_answer.result _ _
    (λ r h used words cap le is wish reached.
    h used words cap le is wish (asks (call_in f used words c.args.budget cap) c.args.chosen is c.args.sizes.now reached a wish (sym c.are_met.ensures ∙ c.if-are_met.false)))
    c.asked_answer.ensures.answer

use Rattle.std.proofs.Common.{None, sym, ap, subst, ◌∙◌}
use Rattle.std.proofs.lemmas.Result.{IfOk-weaker}
use Rattle.svr_frame.specs.Frame.{frame_term}
use Rattle.svr_phase.specs.Chosen.{AreCyclicValues}
use Rattle.svr_call.specs.declared.outcome.Query.{Query}
use Rattle.svr_call.specs.declared.outcome.Outcome.TheVariants.{GaveUp}
use Rattle.svr_solution.specs.Calls.{call_in}
use Rattle.svr_question.specs.declared.ask.ValuesEnd.{ValuesEnd}
use Rattle.svr_question.specs.Ends.{Ends}
use Rattle.svr_randomize.specs.declared.answer.Answer.{Answer}
use Rattle.svr_randomize.specs.Answers.{FitsIfChanged}
use Rattle.svr_randomize.specs.Kept.{IsLeft}
use Rattle.svr_randomize.proofs.Answered.{told_of, zero_proved, spent_asked}
use Rattle.svr_randomize.proofs.Keeping.{hard_many}
use Rattle.svr_randomize.proofs.asked.asked_answer.Goals as goal

pub ask_values-requires-clause-hard : goal.ask_values-requires-clause-hard
ask_values-requires-clause-hard c =
    let f = frame_term c.args.frame.now in
    c.hard_count-hard.ensures ∙ hard_many f c.args.sizes.now c.args.items c.requires.items

pub met_answer-requires-clause-hard : goal.met_answer-requires-clause-hard
met_answer-requires-clause-hard c =
    let f = frame_term c.args.frame.now in
    c.hard_count-hard.ensures ∙ hard_many f c.args.sizes.now c.args.items c.requires.items

pub ask_values-requires-clause-chosen : goal.ask_values-requires-clause-chosen
ask_values-requires-clause-chosen c = subst (AreCyclicValues (frame_term c.args.frame.now)) (sym c.as_slice-values.ensures) c.requires.chosen

pub met_answer-requires-clause-met : goal.met_answer-requires-clause-met
met_answer-requires-clause-met c =
    let f = frame_term c.args.frame.now in
    let e = c.in_ok-asked.asked.encoding in
    rw (c.as_slice-values.ensures, c.len-place.ensures) at
    (subst (λ (x : ValuesEnd). Ends f c.args.sizes.now c.as_slice-values.result.now c.len-place.result c.args.budget e x) c.in-Met.is c.in_ok-asked.ensures.end)

pub returns-in-Met-clause-answer : goal.returns-in-Met-clause-answer
returns-in-Met-clause-answer c = IfOk-weaker c.met_answer.result _ _ (λ r h. h c.args.budget) c.met_answer.ensures.answer

pub returns-in-Refuted-clause-answer : goal.returns-in-Refuted-clause-answer
returns-in-Refuted-clause-answer c =
    let f = frame_term c.args.frame.now in
    let e = c.in_ok-asked.asked.encoding in
    let ended = rw (c.as_slice-values.ensures, c.len-place.ensures) at
    (subst (λ (x : ValuesEnd). Ends f c.args.sizes.now c.as_slice-values.result.now c.len-place.result c.args.budget e x) c.in-Refuted.is c.in_ok-asked.ensures.end) in
    IfOk-weaker c.leaving_none.result _ _
    (λ r told used words cap le is wish asks.
    zero_proved (call_in f used words c.args.budget cap) c.args.chosen is c.args.sizes.now asks e c.in-Refuted.proof ended.0 ended.1 r.answer (told_of c.no_values-answer.result _ r.answer c.no_values-answer.ensures told))
    c.leaving_none.ensures.answer

pub returns-in-Refuted-clause-fits : goal.returns-in-Refuted-clause-fits
returns-in-Refuted-clause-fits c =
    IfOk-weaker c.leaving_none.result _ _
    (λ r told. subst (λ (x : Answer). FitsIfChanged (frame_term c.args.frame.now).class x.change) (sym (told_of c.no_values-answer.result _ r.answer c.no_values-answer.ensures told)) tt) c.leaving_none.ensures.answer

pub returns-in-Refuted-clause-left : goal.returns-in-Refuted-clause-left
returns-in-Refuted-clause-left c =
    IfOk-weaker c.leaving_none.result _ _ (λ r none. subst (IsLeft (frame_term c.args.frame.now) c.args.sizes.now) (sym none) tt) c.leaving_none.ensures.left

pub returns-in-Spent-clause-answer : goal.returns-in-Spent-clause-answer
returns-in-Spent-clause-answer c =
    let f = frame_term c.args.frame.now in
    let e = c.in_ok-asked.asked.encoding in
    let ended = rw c.as_slice-values.ensures at
    (subst (λ (x : ValuesEnd). Ends f c.args.sizes.now c.as_slice-values.result.now c.len-place.result c.args.budget e x) c.in-Spent.is c.in_ok-asked.ensures.end) in
    let same = c.gave_up-answer.ensures ∙ ap (λ (q : Query). record { outcome = GaveUp q e c.in-Spent.log c.in-Spent.first; change = None }) c.query_of-query.ensures in
    λ used words cap le is wish asks. spent_asked (call_in f used words c.args.budget cap) c.args.chosen is c.args.sizes.now asks e c.in-Spent.rank c.in-Spent.log c.in-Spent.first ended.0 ended.1 c.gave_up-answer.result same

pub returns-in-Spent-clause-fits : goal.returns-in-Spent-clause-fits
returns-in-Spent-clause-fits c = subst (λ (x : Answer). FitsIfChanged (frame_term c.args.frame.now).class x.change) (sym c.gave_up-answer.ensures) tt

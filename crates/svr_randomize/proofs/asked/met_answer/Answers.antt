use Rattle.std.proofs.Common.{ℕ, List, length, sym, subst, ◌∙◌}
use Rattle.std.proofs.lemmas.Result.{IfOk-weaker}
use Rattle.svr_eval.specs.Reading.{reading_of}
use Rattle.svr_frame.specs.declared.part.Part.TheVariants.{All as Whole}
use Rattle.svr_frame.specs.Frame.{frame_term}
use Rattle.svr_frame.specs.Satisfaction.{IsAssignment}
use Rattle.svr_phase.specs.Chosen.{AreCyclicValues}
use Rattle.svr_solution.specs.Calls.{call_in}
use Rattle.svr_question.specs.Ends.{IsMet}
use Rattle.svr_randomize.specs.declared.answer.Answer.{Answer}
use Rattle.svr_randomize.specs.Answers.{FitsIfChanged}
use Rattle.svr_randomize.specs.Kept.{IsLeft}
use Rattle.svr_randomize.proofs.Answered.{one_alone, one_solved}
use Rattle.svr_randomize.proofs.Changes.{numbers_fit}
use Rattle.svr_randomize.proofs.asked.met_answer.Goals as goal

pub solution-requires-clause-chosen : goal.solution-requires-clause-chosen
solution-requires-clause-chosen c = subst (AreCyclicValues (frame_term c.args.frame.now)) (sym c.as_slice-values.ensures) c.requires.chosen

pub solution-requires-clause-met : goal.solution-requires-clause-met
solution-requires-clause-met c = (
  length c.args.chosen.encodings,
  subst (λ (fixed : List (ℕ × ℕ)). IsMet (frame_term c.args.frame.now) c.args.sizes.now fixed (length c.args.chosen.encodings) c.args.encoding c.args.met) (sym c.as_slice-values.ensures) c.requires.met,
)

pub solution-requires-clause-wanted : goal.solution-requires-clause-wanted
solution-requires-clause-wanted c = subst (λ (fixed : List (ℕ × ℕ)). IsAssignment (frame_term c.args.frame.now) Whole c.args.sizes.now fixed (reading_of c.args.wanted.now)) (sym c.as_slice-values.ensures) c.requires.wish

pub answer_alone-requires : goal.answer_alone-requires
answer_alone-requires c = c.requires.sound.properties

pub answer_with_clauses-requires : goal.answer_with_clauses-requires
answer_with_clauses-requires c = c.requires.sound.properties

pub returns-then-is_empty-clause-answer : goal.returns-then-is_empty-clause-answer
returns-then-is_empty-clause-answer c =
    let f = frame_term c.args.frame.now in
    IfOk-weaker c.answer_alone.result _ _
    (λ r same budget used words cap le is wish asks.
    one_alone (call_in f used words budget cap) c.args.chosen is c.args.sizes.now asks c.args.encoding c.args.met c.requires.met (c.is_empty.ensures.0 c.if-is_empty.true) (reading_of c.in_ok-solved.solved)
    (c.in_ok-solved.ensures.solves used words budget cap is.choices le (c.as_slice-values.ensures ∙ is.chosen) wish) r.answer same)
    c.answer_alone.ensures.answer

pub returns-then-is_empty-clause-fits : goal.returns-then-is_empty-clause-fits
returns-then-is_empty-clause-fits c =
    let f = frame_term c.args.frame.now in
    let a = reading_of c.in_ok-solved.solved in
    let fits = subst (λ (fixed : List (ℕ × ℕ)). IsAssignment (frame_term c.args.frame.now) Whole c.args.sizes.now fixed (reading_of c.in_ok-solved.solved)) c.as_slice-values.ensures c.in_ok-solved.ensures.fits in
    IfOk-weaker c.answer_alone.result _ _
    (λ r same. subst (λ (x : Answer). FitsIfChanged (frame_term c.args.frame.now).class x.change) (sym same)
    (numbers_fit f c.args.sizes.now c.requires.sound c.requires.fit c.args.chosen.values a fits c.args.chosen.used c.requires.used))
    c.answer_alone.ensures.answer

pub returns-then-is_empty-clause-left : goal.returns-then-is_empty-clause-left
returns-then-is_empty-clause-left c =
    IfOk-weaker c.answer_alone.result _ _ (λ r left. subst (IsLeft (frame_term c.args.frame.now) c.args.sizes.now) (sym left) (c.requires.hard, c.requires.encodes)) c.answer_alone.ensures.left

pub returns-clause-answer : goal.returns-clause-answer
returns-clause-answer c =
    let f = frame_term c.args.frame.now in
    IfOk-weaker c.answer_with_clauses.result _ _
    (λ r same budget used words cap le is wish asks.
    one_solved (call_in f used words budget cap) c.args.chosen is c.args.sizes.now asks c.args.encoding c.args.met c.requires.met (reading_of c.in_ok-solved.solved)
    (c.in_ok-solved.ensures.solves used words budget cap is.choices le (c.as_slice-values.ensures ∙ is.chosen) wish) r.answer same)
    c.answer_with_clauses.ensures.answer

pub returns-clause-fits : goal.returns-clause-fits
returns-clause-fits c =
    let f = frame_term c.args.frame.now in
    let a = reading_of c.in_ok-solved.solved in
    let fits = subst (λ (fixed : List (ℕ × ℕ)). IsAssignment (frame_term c.args.frame.now) Whole c.args.sizes.now fixed (reading_of c.in_ok-solved.solved)) c.as_slice-values.ensures c.in_ok-solved.ensures.fits in
    IfOk-weaker c.answer_with_clauses.result _ _
    (λ r same. subst (λ (x : Answer). FitsIfChanged (frame_term c.args.frame.now).class x.change) (sym same)
    (numbers_fit f c.args.sizes.now c.requires.sound c.requires.fit c.args.chosen.values a fits c.args.chosen.used c.requires.used))
    c.answer_with_clauses.ensures.answer

pub returns-clause-left : goal.returns-clause-left
returns-clause-left c =
    IfOk-weaker c.answer_with_clauses.result _ _ (λ r left. subst (IsLeft (frame_term c.args.frame.now) c.args.sizes.now) (sym left) tt) c.answer_with_clauses.ensures.left

use Rattle.std.proofs.Common.{◌≤◌, ℕ, sym, ap, subst, ◌∙◌}
use Rattle.std.proofs.lemmas.Result.{IfOk-weaker}
use Rattle.svr_world.specs.World.{object_of}
use Rattle.svr_frame.specs.declared.part.Part.TheVariants.{Randc}
use Rattle.svr_frame.specs.Frame.{frame_term}
use Rattle.svr_frame.specs.Weight.{weight_of}
use Rattle.svr_phase.specs.Chosen.{AreCyclicValues}
use Rattle.svr_phase.specs.Ends.{weight_limit}
use Rattle.svr_phase.proofs.Chosen.{passed_values}
use Rattle.svr_call.specs.Call.{call_of}
use Rattle.svr_cyclic.specs.Ends.{CyclicEnds, FitsIfChosen}
use Rattle.svr_randomize.specs.declared.answer.Answer.{Answer}
use Rattle.svr_randomize.specs.Answers.{FitsIfChanged}
use Rattle.svr_randomize.proofs.Answered.{heavy_first, none_cyclic, spent_cyclic}
use Rattle.svr_randomize.proofs.phases.answer_in.Goals as goal

pub returns-then-cyclic-gt-WEIGHT_LIMIT-clause-answer : goal.returns-then-cyclic-gt-WEIGHT_LIMIT-clause-answer
returns-then-cyclic-gt-WEIGHT_LIMIT-clause-answer c =
    let f = frame_term c.args.frame.now in
    heavy_first (call_of c.args.world.now c.args.object f c.args.number c.args.opts) c.weight-cyclic.result (c.weight-cyclic.ensures ∙ ap (weight_of f Randc) c.as_slice-sizes.ensures)
    c.if-cyclic-gt-WEIGHT_LIMIT.true c.too_heavy.result c.too_heavy.ensures

pub returns-then-cyclic-gt-WEIGHT_LIMIT-clause-fits : goal.returns-then-cyclic-gt-WEIGHT_LIMIT-clause-fits
returns-then-cyclic-gt-WEIGHT_LIMIT-clause-fits c = subst (λ (x : Answer). FitsIfChanged (frame_term c.args.frame.now).class x.change) (sym c.too_heavy.ensures) tt

pub choose_randc-requires-clause-light : goal.choose_randc-requires-clause-light
choose_randc-requires-clause-light c =
    let f = frame_term c.args.frame.now in
    subst (λ (n : ℕ). n ≤ weight_limit) (c.weight-cyclic.ensures ∙ ap (weight_of f Randc) c.as_slice-sizes.ensures) c.if-cyclic-gt-WEIGHT_LIMIT.false

pub sized_answer-requires-clause-chosen : goal.sized_answer-requires-clause-chosen
sized_answer-requires-clause-chosen c =
    let f = frame_term c.args.frame.now in
    let call = call_of c.args.world.now c.args.object f c.args.number c.args.opts in
    let ended = subst (CyclicEnds call) c.in-Chosen.is c.in_ok-end.ensures.ends in
    subst (AreCyclicValues (frame_term c.args.frame.now)) (sym ended.chosen) (passed_values call ended.choices ended.passed)

pub sized_answer-requires-clause-few : goal.sized_answer-requires-clause-few
sized_answer-requires-clause-few c = (subst (CyclicEnds (call_of c.args.world.now c.args.object (frame_term c.args.frame.now) c.args.number c.args.opts)) c.in-Chosen.is c.in_ok-end.ensures.ends).few

pub sized_answer-requires-clause-used : goal.sized_answer-requires-clause-used
sized_answer-requires-clause-used c = subst (FitsIfChosen (frame_term c.args.frame.now).class) c.in-Chosen.is c.in_ok-end.ensures.fits

pub returns-in-Chosen-clause-answer : goal.returns-in-Chosen-clause-answer
returns-in-Chosen-clause-answer c =
    let call = call_of c.args.world.now c.args.object (frame_term c.args.frame.now) c.args.number c.args.opts in
    let ended = subst (CyclicEnds call) c.in-Chosen.is c.in_ok-end.ensures.ends in
    IfOk-weaker c.sized_answer.result _ _ (λ r h. h (object_of c.args.world.now c.args.object).used ended) c.sized_answer.ensures.answer

pub returns-in-None-clause-answer : goal.returns-in-None-clause-answer
returns-in-None-clause-answer c =
    let call = call_of c.args.world.now c.args.object (frame_term c.args.frame.now) c.args.number c.args.opts in
    let ended = subst (CyclicEnds call) c.in-None.is c.in_ok-end.ensures.ends in
    none_cyclic call c.in-None.chosen c.in-None.proofs c.in-None.encodings ended.0 ended.1 c.no_cyclic_value.result c.no_cyclic_value.ensures

pub returns-in-None-clause-fits : goal.returns-in-None-clause-fits
returns-in-None-clause-fits c = subst (λ (x : Answer). FitsIfChanged (frame_term c.args.frame.now).class x.change) (sym c.no_cyclic_value.ensures) tt

pub returns-in-Spent-clause-answer : goal.returns-in-Spent-clause-answer
returns-in-Spent-clause-answer c =
    let call = call_of c.args.world.now c.args.object (frame_term c.args.frame.now) c.args.number c.args.opts in
    let ended = subst (CyclicEnds call) c.in-Spent.is c.in_ok-end.ensures.ends in
    spent_cyclic call c.in-Spent.prop c.in-Spent.encoding c.in-Spent.log c.in-Spent.first ended c.gave_up.result c.gave_up.ensures

pub returns-in-Spent-clause-fits : goal.returns-in-Spent-clause-fits
returns-in-Spent-clause-fits c = subst (λ (x : Answer). FitsIfChanged (frame_term c.args.frame.now).class x.change) (sym c.gave_up.ensures) tt

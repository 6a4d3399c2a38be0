use Rattle.std.proofs.Common.{sym, subst}
use Rattle.std.proofs.lemmas.Result.{IfOk-weaker}
use Rattle.svr_frame.specs.Frame.{frame_term}
use Rattle.svr_frame.specs.Sound.{SizesFit}
use Rattle.svr_phase.specs.Chosen.{AreCyclicValues}
use Rattle.svr_phase.proofs.Allowed.{allowed_fit}
use Rattle.svr_sized.specs.declared.choose.SizesEnd.{SizesEnd}
use Rattle.svr_sized.specs.Ends.{SizesEnds}
use Rattle.svr_sized.specs.Questions.{asked_by}
use Rattle.svr_randomize.specs.declared.answer.Answer.{Answer}
use Rattle.svr_randomize.specs.Answers.{call_with, FitsIfChanged}
use Rattle.svr_randomize.proofs.Answered.{none_sized, beyond, spent_sized, has_chosen}
use Rattle.svr_randomize.proofs.phases.open_answer.Goals as goal

pub choose_sizes-requires-clause-chosen : goal.choose_sizes-requires-clause-chosen
choose_sizes-requires-clause-chosen c = subst (AreCyclicValues (frame_term c.args.frame.now)) (sym c.as_slice-values.ensures) c.requires.chosen

pub light_answer-requires-clause-fit : goal.light_answer-requires-clause-fit
light_answer-requires-clause-fit c =
    let f = frame_term c.args.frame.now in
    let ended = subst (λ (x : SizesEnd). SizesEnds f (asked_by c.args.opts c.args.number c.as_slice-values.result.now) c.args.opts.budget x) c.in-Chosen.is c.in_ok-end.ensures in
    subst (SizesFit f) (sym c.as_slice-sizes.ensures) (allowed_fit f c.requires.sound (asked_by c.args.opts c.args.number c.as_slice-values.result.now) c.requires.cap c.in-Chosen.list ended)

pub returns-in-Chosen-clause-answer : goal.returns-in-Chosen-clause-answer
returns-in-Chosen-clause-answer c =
    let f = frame_term c.args.frame.now in
    let ended = rw c.as_slice-values.ensures at (subst (λ (x : SizesEnd). SizesEnds f (asked_by c.args.opts c.args.number c.as_slice-values.result.now) c.args.opts.budget x) c.in-Chosen.is c.in_ok-end.ensures) in
    IfOk-weaker c.light_answer.result _ _
    (λ r h used is chooses light. h used is (has_chosen (call_with f used c.args.number c.args.opts) c.args.chosen is chooses light c.as_slice-sizes.result.now (rw (sym c.as_slice-sizes.ensures) at ended)))
    c.light_answer.ensures.answer

pub returns-in-None-clause-answer : goal.returns-in-None-clause-answer
returns-in-None-clause-answer c =
    let f = frame_term c.args.frame.now in
    let ended = rw c.as_slice-values.ensures at (subst (λ (x : SizesEnd). SizesEnds f (asked_by c.args.opts c.args.number c.as_slice-values.result.now) c.args.opts.budget x) c.in-None.is c.in_ok-end.ensures) in
    IfOk-weaker c.no_sizes.result _ _
    (λ r same used is chooses light. none_sized (call_with f used c.args.number c.args.opts) c.args.chosen is chooses light c.in-None.proof c.in-None.encoding ended.0 ended.1 r same)
    c.no_sizes.ensures

pub returns-in-None-clause-fits : goal.returns-in-None-clause-fits
returns-in-None-clause-fits c =
    IfOk-weaker c.no_sizes.result _ _ (λ r same. subst (λ (x : Answer). FitsIfChanged (frame_term c.args.frame.now).class x.change) (sym same) tt) c.no_sizes.ensures

pub returns-in-BeyondCap-clause-answer : goal.returns-in-BeyondCap-clause-answer
returns-in-BeyondCap-clause-answer c =
    let f = frame_term c.args.frame.now in
    let ended = rw c.as_slice-values.ensures at (subst (λ (x : SizesEnd). SizesEnds f (asked_by c.args.opts c.args.number c.as_slice-values.result.now) c.args.opts.budget x) c.in-BeyondCap.is c.in_ok-end.ensures) in
    IfOk-weaker c.beyond_cap.result _ _
    (λ r same used is chooses light. beyond (call_with f used c.args.number c.args.opts) c.args.chosen is chooses light c.in-BeyondCap.sizes c.in-BeyondCap.proof c.in-BeyondCap.encoding ended.0 ended.1 r same)
    c.beyond_cap.ensures

pub returns-in-BeyondCap-clause-fits : goal.returns-in-BeyondCap-clause-fits
returns-in-BeyondCap-clause-fits c =
    IfOk-weaker c.beyond_cap.result _ _ (λ r same. subst (λ (x : Answer). FitsIfChanged (frame_term c.args.frame.now).class x.change) (sym same) tt) c.beyond_cap.ensures

pub returns-in-Spent-clause-answer : goal.returns-in-Spent-clause-answer
returns-in-Spent-clause-answer c =
    let f = frame_term c.args.frame.now in
    let ended = rw c.as_slice-values.ensures at (subst (λ (x : SizesEnd). SizesEnds f (asked_by c.args.opts c.args.number c.as_slice-values.result.now) c.args.opts.budget x) c.in-Spent.is c.in_ok-end.ensures) in
    λ used is chooses light. spent_sized (call_with f used c.args.number c.args.opts) c.args.chosen is chooses light c.in-Spent.encoding c.in-Spent.log c.in-Spent.first ended.0 ended.1 c.gave_up.result c.gave_up.ensures

pub returns-in-Spent-clause-fits : goal.returns-in-Spent-clause-fits
returns-in-Spent-clause-fits c = subst (λ (x : Answer). FitsIfChanged (frame_term c.args.frame.now).class x.change) (sym c.gave_up.ensures) tt

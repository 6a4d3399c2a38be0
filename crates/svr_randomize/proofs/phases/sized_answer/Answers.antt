use Rattle.std.proofs.Common.{◌≡◌, ◌≤◌, true, false, ℕ, List, sym, ap, subst, ◌∙◌}
use Rattle.std.proofs.lemmas.Result.{IfOk-weaker}
use Rattle.svr_frame.specs.declared.part.Part.TheVariants.{Sizes}
use Rattle.svr_frame.specs.Frame.{frame_term}
use Rattle.svr_frame.specs.Sound.{SizesFit}
use Rattle.svr_frame.specs.Weight.{weight_of}
use Rattle.svr_phase.specs.Sizes.{chooses_sizes}
use Rattle.svr_phase.specs.Ends.{HasSizes, weight_limit}
use Rattle.svr_phase.proofs.Preferred.{state_sizes_fit}
use Rattle.svr_randomize.specs.declared.answer.Answer.{Answer}
use Rattle.svr_randomize.specs.Answers.{call_with, FitsIfChanged}
use Rattle.svr_randomize.proofs.Answered.{has_kept, heavy_second}
use Rattle.svr_randomize.proofs.phases.sized_answer.Goals as goal

pub light_answer-requires-clause-fit : goal.light_answer-requires-clause-fit
light_answer-requires-clause-fit c = subst (SizesFit (frame_term c.args.frame.now)) (sym c.as_slice-sizes.ensures) (state_sizes_fit (frame_term c.args.frame.now) c.requires.sound)

pub returns-then-not-chooses_sizes-clause-answer : goal.returns-then-not-chooses_sizes-clause-answer
returns-then-not-chooses_sizes-clause-answer c =
    let kept : chooses_sizes (frame_term c.args.frame.now) ≡ false = sym c.chooses_sizes.ensures ∙ c.if-not-chooses_sizes.true in
    IfOk-weaker c.light_answer.result _ _
    (λ r h used is.
    h used is
    (subst (λ (ns : List ℕ). HasSizes (call_with (frame_term c.args.frame.now) used c.args.number c.args.opts) is.choices ns) (sym c.as_slice-sizes.ensures)
    (has_kept (call_with (frame_term c.args.frame.now) used c.args.number c.args.opts) c.args.chosen is kept)))
    c.light_answer.ensures.answer

pub returns-then-some-gt-WEIGHT_LIMIT-clause-answer : goal.returns-then-some-gt-WEIGHT_LIMIT-clause-answer
returns-then-some-gt-WEIGHT_LIMIT-clause-answer c =
    let f = frame_term c.args.frame.now in
    let chooses : chooses_sizes (frame_term c.args.frame.now) ≡ true = sym c.chooses_sizes.ensures ∙ c.if-not-chooses_sizes.false in
    λ used is. heavy_second (call_with f used c.args.number c.args.opts) c.args.chosen is c.weight-some.result chooses (c.weight-some.ensures ∙ ap (weight_of f Sizes) c.as_slice-sizes.ensures)
    c.if-some-gt-WEIGHT_LIMIT.true c.too_heavy.result c.too_heavy.ensures

pub returns-then-some-gt-WEIGHT_LIMIT-clause-fits : goal.returns-then-some-gt-WEIGHT_LIMIT-clause-fits
returns-then-some-gt-WEIGHT_LIMIT-clause-fits c = subst (λ (x : Answer). FitsIfChanged (frame_term c.args.frame.now).class x.change) (sym c.too_heavy.ensures) tt

pub returns-clause-answer : goal.returns-clause-answer
returns-clause-answer c =
    let f = frame_term c.args.frame.now in
    let chooses : chooses_sizes (frame_term c.args.frame.now) ≡ true = sym c.chooses_sizes.ensures ∙ c.if-not-chooses_sizes.false in
    let light : weight_of (frame_term c.args.frame.now) Sizes (frame_term c.args.frame.now).state.sizes ≤ weight_limit
    = subst (λ (n : ℕ). n ≤ weight_limit) (c.weight-some.ensures ∙ ap (weight_of f Sizes) c.as_slice-sizes.ensures) c.if-some-gt-WEIGHT_LIMIT.false in
    IfOk-weaker c.open_answer.result _ _ (λ r h used is. h used is chooses light) c.open_answer.ensures.answer

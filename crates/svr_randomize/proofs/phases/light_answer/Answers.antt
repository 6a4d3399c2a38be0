use Rattle.std.proofs.Common.{◌≤◌, ℕ, sym, subst}
use Rattle.std.proofs.lemmas.Result.{IfOk-weaker}
use Rattle.svr_frame.specs.declared.part.Part.TheVariants.{All as Whole}
use Rattle.svr_frame.specs.Frame.{frame_term}
use Rattle.svr_frame.specs.Weight.{weight_of}
use Rattle.svr_phase.specs.Ends.{weight_limit}
use Rattle.svr_randomize.specs.declared.answer.Answer.{Answer}
use Rattle.svr_randomize.specs.Answers.{call_with, FitsIfChanged}
use Rattle.svr_randomize.proofs.Answered.{heavy_last}
use Rattle.svr_randomize.proofs.phases.light_answer.Goals as goal

pub returns-then-whole-gt-WEIGHT_LIMIT-clause-answer : goal.returns-then-whole-gt-WEIGHT_LIMIT-clause-answer
returns-then-whole-gt-WEIGHT_LIMIT-clause-answer c =
    let f = frame_term c.args.frame.now in
    λ used is has. heavy_last (call_with f used c.args.number c.args.opts) c.args.chosen is c.weight-whole.result c.args.sizes.now has c.weight-whole.ensures c.if-whole-gt-WEIGHT_LIMIT.true c.too_heavy.result c.too_heavy.ensures

pub returns-then-whole-gt-WEIGHT_LIMIT-clause-fits : goal.returns-then-whole-gt-WEIGHT_LIMIT-clause-fits
returns-then-whole-gt-WEIGHT_LIMIT-clause-fits c = subst (λ (x : Answer). FitsIfChanged (frame_term c.args.frame.now).class x.change) (sym c.too_heavy.ensures) tt

pub returns-clause-answer : goal.returns-clause-answer
returns-clause-answer c =
    let light : weight_of (frame_term c.args.frame.now) Whole c.args.sizes.now ≤ weight_limit
    = subst (λ (n : ℕ). n ≤ weight_limit) c.weight-whole.ensures c.if-whole-gt-WEIGHT_LIMIT.false in
    IfOk-weaker c.values_answer.result _ _ (λ r h used is has. h used is (record { sized = has; light = light })) c.values_answer.ensures.answer

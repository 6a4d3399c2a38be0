use Rattle.std.proofs.Common.{ap, ◌∙◌}
use Rattle.std.proofs.lemmas.Result.{IfOk-weaker}
use Rattle.svr_eval.specs.Reading.{reading_of}
use Rattle.svr_frame.specs.Frame.{frame_term}
use Rattle.svr_call.specs.declared.outcome.Outcome.TheVariants.{One}
use Rattle.svr_call.specs.Call.{numbers_read, random_props}
use Rattle.svr_cyclic.specs.declared.choose.Chosen.{Chosen}
use Rattle.svr_randomize.proofs.Answered.{given, told_of}
use Rattle.svr_randomize.proofs.asked.answer_with_clauses.Goals as goal

pub returns-clause-answer : goal.returns-clause-answer
returns-clause-answer c =
    let f = frame_term c.args.frame.now in
    let a = reading_of c.args.solved.now in
    IfOk-weaker c.leaving_none.result _ _
    (λ r told. told_of c.one-answer.result _ r.answer c.one-answer.ensures told
    ∙ ap (λ (x : Chosen). given (One c.args.kept c.args.dropped x.cycles x.encodings) (numbers_read c.args.sizes.now a (random_props f)) x.used) c.in_ok-carried.ensures)
    c.leaving_none.ensures.answer

use Rattle.svr_typed.specs.StmtTerm.{design_term}
use Rattle.svr_refused.specs.Texts.{HasDesign, IsRefused}
use Rattle.svr_answer.proofs.Texts.{refusal_answers, nothing_answers}
use Rattle.svr_answer.proofs.answer.answer.Goals as goal

pub returns-in-Ok-Accepted : goal.returns-in-Ok-Accepted
returns-in-Ok-Accepted g c =
    let read : HasDesign c.args.text.now (design_term c.in-Ok-Accepted.design) = rw c.in-Ok-Accepted.field-0-is at c.in-Ok-Accepted.ensures in
    c.run_of-status.ensures c.args.text.now c.requires.small read

pub returns-in-Ok-Refused : goal.returns-in-Ok-Refused
returns-in-Ok-Refused g c =
    let why : IsRefused c.args.text.now c.in-Ok-Refused.line.items = rw c.in-Ok-Refused.field-0-is at c.in-Ok-Refused.ensures in
    refusal_answers c.args.asked c.args.text.now c.in-Ok-Refused.line.items _ _ _ _ _ _ _ c.requires.small why (rw c.deref.ensures.value at c.finish.ensures.ends) c.finish.ensures.faults

pub returns-in-Err : goal.returns-in-Err
returns-in-Err g c = nothing_answers c.args.asked c.args.text.now _

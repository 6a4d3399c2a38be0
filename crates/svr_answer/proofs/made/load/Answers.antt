use Rattle.std.proofs.Common.{◌≤◌, ◌+◌, ◌*◌, length, arith}
use Rattle.svr_limits.specs.declared.limit.TheConstants.{TEXT_LIMIT}
use Rattle.svr_load.specs.Script.{load_text}
use Rattle.svr_typed.specs.StmtTerm.{design_term}
use Rattle.svr_refused.specs.Texts.{HasDesign, IsRefused}
use Rattle.svr_answer.proofs.Loads.{refusal_answers, nothing_answers}
use Rattle.svr_answer.proofs.made.load.Goals as goal

pub returns-in-Err : goal.returns-in-Err
returns-in-Err g c = nothing_answers c.args.asked.count c.args.asked.opts _

pub returns-in-Ok-Accepted : goal.returns-in-Ok-Accepted
returns-in-Ok-Accepted g c =
    let read : HasDesign c.deref.result.now (design_term c.in-Ok-Accepted.design) = rw c.in-Ok-Accepted.field-0-is at c.in-Ok-Accepted.ensures in
    let same : HasDesign (load_text c.args.asked.count) (design_term c.in-Ok-Accepted.design) = rw (c.deref.ensures.value, c.in-Ok.ensures.text) at read in
    c.load_design-status.ensures same

pub returns-in-Ok-Refused : goal.returns-in-Ok-Refused
returns-in-Ok-Refused g c =
    let short : length c.in-Ok.text.items ≤ 300 * c.args.asked.count + 40 = c.in-Ok.ensures.short in
    let few : c.args.asked.count ≤ 2000 = c.requires.small in
    let small : length c.in-Ok.text.items ≤ TEXT_LIMIT = omega arith in
    let why : IsRefused c.deref.result.now c.in-Ok-Refused.line.items = rw c.in-Ok-Refused.field-0-is at c.in-Ok-Refused.ensures in
    let same : IsRefused c.in-Ok.text.items c.in-Ok-Refused.line.items = rw c.deref.ensures.value at why in
    refusal_answers c.args.asked.count c.args.asked.opts c.in-Ok.text.items c.in-Ok-Refused.line.items c.finish.result _ _ _ _ _ _ c.in-Ok.ensures.text small same (rw c.deref-in-Ok-Refused.ensures.value at c.finish.ensures.ends) c.finish.ensures.faults

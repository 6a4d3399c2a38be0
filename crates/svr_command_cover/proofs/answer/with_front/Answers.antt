use Rattle.std.proofs.Common.{refl}
use Rattle.svr_refused.specs.Texts.{IsRefused}
use Rattle.svr_coverage.specs.Script.{script_of}
use Rattle.svr_command_cover.specs.Answers.{no_script}
use Rattle.svr_command_cover.proofs.Written.{finished, refusal_answers, nothing_answers}
use Rattle.svr_command_cover.proofs.answer.with_front.Goals as goal

pub with_design-status-requires-clause-read : goal.with_design-status-requires-clause-read
with_design-status-requires-clause-read g c = rw c.in-Ok-Accepted.field-0-is at c.in-Ok-Accepted.ensures

pub returns-in-Ok-Accepted : goal.returns-in-Ok-Accepted
returns-in-Ok-Accepted g c = c.with_design-status.ensures

pub returns-in-Ok-Refused : goal.returns-in-Ok-Refused
returns-in-Ok-Refused g c =
    let why : IsRefused (script_of c.args.text.now c.args.front.now.tokens.items c.args.front.now.groups.used) c.in-Ok-Refused.line.items = rw c.in-Ok-Refused.field-0-is at c.in-Ok-Refused.ensures in
    refusal_answers c.args.opts c.args.text.now c.finish.result c.in-Ok-Refused.line.items _ _ _ _ _ _
    (no_script c.args.front.now.tokens.items c.args.front.now.groups c.in-Ok-Refused.line.items c.requires.small c.requires.begins why refl)
    (finished _ c.finish.result c.in-Ok-Refused.line.items _ _ _ _ _ c.deref.ensures.value c.finish.ensures.ends c.finish.ensures.faults)

pub returns-in-Err : goal.returns-in-Err
returns-in-Err g c = nothing_answers c.args.opts c.args.text.now _

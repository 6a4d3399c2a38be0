use Rattle.std.proofs.Common.{◌∙◌}
use Rattle.svr_status.specs.Lines.{refused_as}
use Rattle.svr_command_cover.proofs.Written.{finished, nothing_told}
use Rattle.svr_command_cover.proofs.tell.refused.Goals as goal

pub returns-in-Ok : goal.returns-in-Ok
returns-in-Ok g c = finished _ c.finish.result (refused_as c.args.place c.args.number) c.deref.result.now _ _ _ _ (c.deref.ensures.value ∙ c.in-Ok.ensures) c.finish.ensures.ends c.finish.ensures.faults

pub returns-in-Err : goal.returns-in-Err
returns-in-Err g c = nothing_told _ (refused_as c.args.place c.args.number) _ _

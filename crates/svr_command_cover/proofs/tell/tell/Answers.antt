use Rattle.std.proofs.Common.{◌∙◌, []}
use Rattle.svr_cover_report.specs.Report.{with_groups}
use Rattle.svr_command_cover.proofs.Written.{finished, nothing_told}
use Rattle.svr_command_cover.proofs.tell.tell.Goals as goal

pub returns-in-Ok : goal.returns-in-Ok
returns-in-Ok g c = finished c.args.status c.finish.result (with_groups c.args.counts.now [] c.args.names.now) c.deref.result.now _ _ _ _ (c.deref.ensures.value ∙ c.in-Ok.ensures) c.finish.ensures.ends c.finish.ensures.faults

pub returns-in-Err : goal.returns-in-Err
returns-in-Err g c = nothing_told c.args.status (with_groups c.args.counts.now [] c.args.names.now) _ _

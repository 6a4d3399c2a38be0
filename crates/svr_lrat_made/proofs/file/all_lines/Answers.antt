use Rattle.std.proofs.Common.{length, ap, ◌∙◌}
use Rattle.svr_lrat_made.proofs.Marking.{length_needed}
use Rattle.svr_lrat_made.proofs.file.all_lines.Goals as goal

pub lines_of-requires : goal.lines_of-requires
lines_of-requires c = ap length (c.as_slice-2.ensures.value ∙ c.in_ok-marks.ensures) ∙ length_needed c.args.goal c.in_ok-next.field-0 c.args.steps.now

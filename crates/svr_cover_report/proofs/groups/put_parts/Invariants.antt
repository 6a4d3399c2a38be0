use Rattle.std.proofs.Common.{◌≡◌, length}
use Rattle.svr_cover_report.specs.Report.{with_parts}
use Rattle.svr_cover_report.proofs.groups.put_parts.Given as goal

abbrev pub invariant-parts : goal.invariant-parts
invariant-parts l = with_parts l.points l.counts l.text.items l.left ≡ with_parts l.points l.counts l.fn.text.items l.parts

abbrev pub decreases-parts : goal.decreases-parts
decreases-parts l = length l.left

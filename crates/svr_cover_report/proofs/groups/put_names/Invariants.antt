use Rattle.std.proofs.Common.{◌≡◌, true, length}
use Rattle.svr_cover_report.specs.Report.{with_names}
use Rattle.svr_cover_report.proofs.groups.put_names.Given as goal

abbrev pub invariant-points : goal.invariant-points
invariant-points l = with_names l.text.items l.points l.first l.span l.rest l.left ≡ with_names l.fn.text.items l.points true l.fn.tuples l.fn.tuple l.cross

abbrev pub decreases-points : goal.decreases-points
decreases-points l = length l.left

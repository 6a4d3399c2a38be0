use Rattle.std.proofs.Common.{◌≡◌, length}
use Rattle.svr_cover_report.specs.Report.{with_groups}
use Rattle.svr_cover_report.proofs.groups.put_groups.Given as goal

abbrev pub invariant-groups : goal.invariant-groups
invariant-groups l = with_groups l.counts l.text.items l.left ≡ with_groups l.counts l.fn.text.items l.groups

abbrev pub decreases-groups : goal.decreases-groups
decreases-groups l = length l.left

use Rattle.std.proofs.Common.{◌≡◌}
use Rattle.svr_cover_report.specs.Report.{with_bins}
use Rattle.svr_cover_report.proofs.groups.put_bins.Given as goal

abbrev pub invariant-loop-place : goal.invariant-loop-place
invariant-loop-place l = l.text.items ≡ with_bins l.fn.text.items l.names l.first l.counts l.place

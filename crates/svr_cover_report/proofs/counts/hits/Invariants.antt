use Rattle.std.proofs.Common.{◌≡◌, ◌≤◌}
use Rattle.svr_cover_report.specs.Report.{hits}
use Rattle.svr_cover_report.proofs.counts.hits.Given as goal

abbrev pub invariant-loop-place : goal.invariant-loop-place
invariant-loop-place l = record {
  found : l.found ≡ hits l.counts l.first l.place;
  near : l.found ≤ l.place;
}

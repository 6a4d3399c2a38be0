use Rattle.std.proofs.Common.{◌≡◌}
use Rattle.svr_cover_report.specs.Report.{with_tuples}
use Rattle.svr_cover_report.proofs.groups.put_tuples.Given as goal

abbrev pub invariant-loop-tuple : goal.invariant-loop-tuple
invariant-loop-tuple l = l.text.items ≡ with_tuples l.fn.text.items l.points l.cross l.counts l.tuple

use Rattle.std.proofs.Common.{◌≡◌}
use Rattle.svr_query.specs.Logged.{valuation_of}
use Rattle.svr_found.specs.Listed.{numbers_read}
use Rattle.svr_found.proofs.numbers.row_found.Given as goal

abbrev pub invariant-loop-index : goal.invariant-loop-index
invariant-loop-index l = l.row ≡ numbers_read l.inputs (valuation_of l.values) l.prop l.index

use Rattle.std.proofs.Common.{◌≡◌}
use Rattle.svr_query.specs.Logged.{valuation_of}
use Rattle.svr_found.specs.Listed.{rows_read}
use Rattle.svr_found.proofs.numbers.rows_found.Given as goal

abbrev pub invariant-loop-prop : goal.invariant-loop-prop
invariant-loop-prop l = l.all ≡ rows_read l.inputs (valuation_of l.values) l.prop

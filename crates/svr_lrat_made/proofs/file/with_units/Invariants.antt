use Rattle.std.proofs.Common.{◌≡◌, ◌++◌, map, take}
use Rattle.svr_lrat_made.specs.Made.{unit_of}
use Rattle.svr_lrat_made.proofs.file.with_units.Given as goal

abbrev pub invariant-loop-clause : goal.invariant-loop-clause
invariant-loop-clause l = l.clauses.items ≡ take l.clause-index l.given

abbrev pub invariant-loop-lit : goal.invariant-loop-lit
invariant-loop-lit l = l.clauses.items ≡ l.fn.given ++ map unit_of (take l.lit-index l.assume)

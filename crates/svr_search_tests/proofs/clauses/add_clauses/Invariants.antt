use Rattle.std.specs.List.{All}
use Rattle.svr_chain.specs.Clauses.{AreWithin}
use Rattle.svr_search_tests.proofs.clauses.add_clauses.Given as goal

abbrev pub invariant-loop-numbers : goal.invariant-loop-numbers
invariant-loop-numbers l = All (AreWithin l.vars) l.clauses.items

use Rattle.std.proofs.Common.{◌≡◌, length}
use Rattle.svr_chain.specs.Clauses.{AreWithin}
use Rattle.svr_query.specs.Bits.{AreFirst}
use Rattle.svr_search_tests.proofs.circuit.bit_lits.Given as goal

abbrev pub invariant-loop-place : goal.invariant-loop-place
invariant-loop-place l = record {
  first : AreFirst l.lits.items;
  len : length l.lits.items ≡ l.place;
  within : AreWithin l.count l.lits.items;
}

use Rattle.std.proofs.Common.{◌≡◌}
use Rattle.svr_search_tests.proofs.circuit.make_built.Goals as goal

-- the bits are the inputs
pub with_bits-requires-clause-settled : goal.with_bits-requires-clause-settled
with_bits-requires-clause-settled c = rw (c.requires.len) c.cnf_of-cnf.ensures.settled

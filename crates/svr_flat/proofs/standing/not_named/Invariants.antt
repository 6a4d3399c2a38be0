use Rattle.std.proofs.Common.{◌≡◌, map}
use Rattle.svr_typed.specs.ClassTerm.{block_terms}
use Rattle.svr_flat.specs.Named.{bytes_of, not_named}
use Rattle.svr_flat.proofs.standing.not_named.Given as goal

abbrev pub invariant-loop-block : goal.invariant-loop-block
invariant-loop-block l = block_terms l.kept.items ≡ not_named (map bytes_of l.names.keys) (block_terms l.yielded)

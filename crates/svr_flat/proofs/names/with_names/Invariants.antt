use Rattle.std.proofs.Common.{◌≡◌, map, drop}
use Rattle.svr_typed.specs.ClassTerm.{block_terms}
use Rattle.svr_flat.specs.Named.{bytes_of, and_names}
use Rattle.svr_flat.proofs.names.with_names.Given as goal

abbrev pub invariant-loop-block : goal.invariant-loop-block
invariant-loop-block l = and_names (map bytes_of l.names.keys) (block_terms (drop l.block-index l.blocks)) ≡ and_names (map bytes_of l.fn.names.keys) (block_terms l.blocks)

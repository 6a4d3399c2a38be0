use Rattle.std.proofs.Common.{◌≡◌, length}
use Rattle.svr_token.specs.Names.{names_of}
use Rattle.svr_seq_made.specs.Blocks.{fresh, acts_refusals, acts_made}
use Rattle.svr_seq_made.specs.Seen.{seen}
use Rattle.svr_seq_made.proofs.block.acts_of.Given as goal

abbrev pub invariant-pieces : goal.invariant-pieces
invariant-pieces l = record {
  refused : acts_refusals (names_of l.set.names) fresh l.pieces ≡ acts_refusals (names_of l.set.names) (seen l.block) l.left;
  made : acts_made (names_of l.set.names) fresh l.pieces ≡ acts_made (names_of l.set.names) (seen l.block) l.left;
}

abbrev pub decreases-pieces : goal.decreases-pieces
decreases-pieces l = length l.left

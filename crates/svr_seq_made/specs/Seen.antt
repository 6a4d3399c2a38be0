-- A block on the way, as contracts see it: the innermost choice first
use Rattle.std.specs.Prelude.{List, map, reverse}
use Rattle.svr_seq.specs.SeqTerm.{act_terms, branch_term}
use Rattle.svr_seq_made.specs.declared.block.Open.{Open}
use Rattle.svr_seq_made.specs.declared.block.Block.{Block}
use Rattle.svr_seq_made.specs.Blocks.{Opened, BlockSeen}

abbrev pub open_seen : Open → Opened
open_seen o = record { weight = o.weight; branches = map branch_term o.branches }

abbrev pub opens_seen : List Open → List Opened
opens_seen os = reverse (map open_seen os)

abbrev pub seen : Block → BlockSeen
seen b = record { opens = opens_seen b.opens; acts = act_terms b.acts }

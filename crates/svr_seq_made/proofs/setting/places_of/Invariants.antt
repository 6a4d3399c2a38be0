use Rattle.std.proofs.Common.{◌≡◌, ◌+◌, [], map, length}
use Rattle.svr_token.specs.Names.{names_of}
use Rattle.svr_seq_made.specs.Refusals.{entries}
use Rattle.svr_seq_made.specs.Tables.{entry_of}
use Rattle.svr_seq_made.proofs.setting.places_of.Given as goal

abbrev pub invariant-prods : goal.invariant-prods
invariant-prods l = record {
  place : l.at + length l.left ≡ length l.prods;
  known : entries (names_of l.names) [] 0 l.prods ≡ entries (names_of l.names) (map entry_of l.places.entries) l.at l.left;
}

abbrev pub decreases-prods : goal.decreases-prods
decreases-prods l = length l.left

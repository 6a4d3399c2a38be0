use Rattle.std.proofs.Common.{◌≡◌, ◌+◌, [], map, length}
use Rattle.svr_token.specs.Names.{names_of}
use Rattle.svr_cover_checked.specs.Places.{entries}
use Rattle.svr_cover_checked.specs.Tables.{entry_of}
use Rattle.svr_cover_checked.proofs.names.numbered.Given as goal

abbrev pub invariant-tokens : goal.invariant-tokens
invariant-tokens l = record {
  place : l.at + length l.left ≡ length l.tokens;
  known : entries (names_of l.names) [] 0 l.tokens ≡ entries (names_of l.names) (map entry_of l.places.entries) l.at l.left;
}

abbrev pub decreases-tokens : goal.decreases-tokens
decreases-tokens l = length l.left

use Rattle.std.proofs.Common.{◌≡◌, ◌+◌, length}
use Rattle.svr_token.specs.Names.{names_of}
use Rattle.svr_cover_checked.specs.Refusals.{groups_refusals}
use Rattle.svr_cover_checked.specs.Tables.{found_in}
use Rattle.svr_cover_checked.proofs.groups.check_each.Given as goal

abbrev pub invariant-groups : goal.invariant-groups
invariant-groups l = record {
  place : l.at + length l.left ≡ length l.groups;
  refused : groups_refusals (names_of l.places.names) l.classes.classes.now l.classes.flats.now (found_in l.places.table.now.entries) 0 0 l.groups ≡ groups_refusals (names_of l.places.names) l.classes.classes.now l.classes.flats.now (found_in l.places.table.now.entries) l.at l.total l.left;
}

abbrev pub decreases-groups : goal.decreases-groups
decreases-groups l = length l.left

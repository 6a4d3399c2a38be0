use Rattle.std.proofs.Common.{◌≡◌, ◌++◌, map, length}
use Rattle.svr_token.specs.Names.{names_of}
use Rattle.svr_seq.specs.SeqTerm.{part_term}
use Rattle.svr_seq_made.specs.Making.{part_made}
use Rattle.svr_seq_made.specs.Refusals.{parts_refusals}
use Rattle.svr_seq_made.specs.Tables.{found_in}
use Rattle.svr_seq_made.proofs.rules.parts_of.Given as goal

abbrev pub invariant-parts : goal.invariant-parts
invariant-parts l = record {
  refused : parts_refusals (names_of l.set.names) (found_in l.set.places.now.entries) l.fits 0 l.parts ≡ parts_refusals (names_of l.set.names) (found_in l.set.places.now.entries) l.fits (length l.done) l.left;
  made : map (part_made (names_of l.set.names) (found_in l.set.places.now.entries)) l.parts ≡ map part_term l.done ++ map (part_made (names_of l.set.names) (found_in l.set.places.now.entries)) l.left;
}

abbrev pub decreases-parts : goal.decreases-parts
decreases-parts l = length l.left

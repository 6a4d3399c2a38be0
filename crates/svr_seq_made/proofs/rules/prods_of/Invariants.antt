use Rattle.std.proofs.Common.{◌≡◌, ◌++◌, map, length}
use Rattle.svr_token.specs.Names.{names_of}
use Rattle.svr_seq.specs.SeqTerm.{production_term}
use Rattle.svr_seq_made.specs.Making.{prod_made}
use Rattle.svr_seq_made.specs.Refusals.{prods_refusals}
use Rattle.svr_seq_made.specs.Tables.{found_in}
use Rattle.svr_seq_made.proofs.rules.prods_of.Given as goal

abbrev pub invariant-prods : goal.invariant-prods
invariant-prods l = record {
  refused : prods_refusals (names_of l.set.names) (found_in l.set.places.now.entries) 0 l.prods ≡ prods_refusals (names_of l.set.names) (found_in l.set.places.now.entries) (length l.done) l.left;
  made : map (prod_made (names_of l.set.names) (found_in l.set.places.now.entries)) l.prods ≡ map production_term l.done ++ map (prod_made (names_of l.set.names) (found_in l.set.places.now.entries)) l.left;
}

abbrev pub decreases-prods : goal.decreases-prods
decreases-prods l = length l.left

use Rattle.std.proofs.Common.{◌≡◌, ◌++◌, map, length}
use Rattle.svr_token.specs.Names.{names_of}
use Rattle.svr_seq.specs.SeqTerm.{rule_term}
use Rattle.svr_seq_made.specs.Making.{rule_made}
use Rattle.svr_seq_made.specs.Refusals.{rules_refusals}
use Rattle.svr_seq_made.specs.Tables.{found_in}
use Rattle.svr_seq_made.proofs.rules.rules_of.Given as goal

abbrev pub invariant-rules : goal.invariant-rules
invariant-rules l = record {
  refused : rules_refusals (names_of l.set.names) (found_in l.set.places.now.entries) 0 l.rules ≡ rules_refusals (names_of l.set.names) (found_in l.set.places.now.entries) (length l.done) l.left;
  made : map (rule_made (names_of l.set.names) (found_in l.set.places.now.entries)) l.rules ≡ map rule_term l.done ++ map (rule_made (names_of l.set.names) (found_in l.set.places.now.entries)) l.left;
}

abbrev pub decreases-rules : goal.decreases-rules
decreases-rules l = length l.left

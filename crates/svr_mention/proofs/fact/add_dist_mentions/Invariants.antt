use Rattle.std.proofs.Common.{◌≡◌, ◌++◌, length, map, drop}
use Rattle.svr_typed.specs.ItemTerm.{dist_terms}
use Rattle.svr_eval.specs.Reading.{reading_of}
use Rattle.svr_eval.specs.Holds.{MembersAreTyped, MembersCanRead}
use Rattle.svr_mention.specs.Mentioned.{mention_in, dist_reads_in}
use Rattle.svr_mention.proofs.fact.add_dist_mentions.Given as goal

abbrev pub invariant-loop-d : goal.invariant-loop-d
invariant-loop-d l = record {
  typed : MembersAreTyped (dist_terms (drop l.d-index l.dist));
  reads : MembersCanRead (reading_of l.set.state.now) (length l.env) (dist_terms (drop l.d-index l.dist));
  told : l.out ++ map (mention_in l.set) (dist_reads_in l.set l.env (dist_terms (drop l.d-index l.dist))) ≡ l.initial.out ++ map (mention_in l.set) (dist_reads_in l.set l.env (dist_terms l.dist));
}

use Rattle.std.proofs.Common.{◌≡◌, ◌++◌, length, map, drop}
use Rattle.std.specs.Prelude.{filter}
use Rattle.svr_typed.specs.ExprTerm.{range_term}
use Rattle.svr_typed.specs.ItemTerm.{dist_terms}
use Rattle.svr_eval.specs.Reading.{reading_of}
use Rattle.svr_frame.specs.Occurrences.{closed_members, are_weighed}
use Rattle.svr_eval.specs.Holds.{MembersAreTyped, MembersCanRead}
use Rattle.svr_closed.proofs.fact.closed_members.Given as goal

abbrev pub invariant-loop-d : goal.invariant-loop-d
invariant-loop-d l = record {
  typed : MembersAreTyped (dist_terms (drop l.d-index l.dist));
  reads : MembersCanRead (reading_of l.state) (length l.env) (dist_terms (drop l.d-index l.dist));
  told : map range_term l.members ++ closed_members l.env (filter (are_weighed (reading_of l.state) l.env) (dist_terms (drop l.d-index l.dist))) ≡ closed_members l.env (filter (are_weighed (reading_of l.state) l.env) (dist_terms l.dist));
}

use Rattle.std.proofs.Common.{◌≡◌, ◌≤◌, ◌+◌, ◌-◌, ◌^◌, drop}
use Rattle.svr_typed.specs.ItemTerm.{dist_terms}
use Rattle.svr_eval.specs.Reading.{reading_of}
use Rattle.svr_eval.specs.Holds.{MembersAreTyped, MembersCanRead}
use Rattle.svr_frame.specs.Frame.{frame_term}
use Rattle.svr_frame.specs.Weight.{capped}
use Rattle.svr_draw.specs.Preferred as spec
use Rattle.svr_draw.proofs.share.total_places.Given as goal

abbrev pub invariant-loop-member : goal.invariant-loop-member
invariant-loop-member l = record {
  typed : MembersAreTyped (dist_terms (drop l.member-index l.members));
  reads : MembersCanRead (reading_of l.here) 0 (dist_terms (drop l.member-index l.members));
  small : l.sum ≤ 2 ^ 128 - 1;
  told : capped (l.sum + spec.places_of (spec.shares_of (frame_term l.frame) (reading_of l.here) l.prop (dist_terms (drop l.member-index l.members)))) ≡ capped (spec.places_of (spec.shares_of (frame_term l.frame) (reading_of l.here) l.prop (dist_terms l.members)));
}

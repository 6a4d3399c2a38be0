use Rattle.std.proofs.Common.{◌≡◌, ◌≤◌, ◌+◌, ◌-◌, ◌^◌, drop}
use Rattle.svr_typed.specs.ItemTerm.{dist_terms}
use Rattle.svr_eval.specs.Holds.{MembersAreTyped}
use Rattle.svr_frame.specs.Frame.{frame_term}
use Rattle.svr_frame.specs.Weight.{capped}
use Rattle.svr_weight.specs.Costs as spec
use Rattle.svr_weight.proofs.cost.members_cost.Given as goal

abbrev pub invariant-loop-member : goal.invariant-loop-member
invariant-loop-member l = record {
  typed : MembersAreTyped (dist_terms (drop l.member-index l.members));
  small : l.sum ≤ 2 ^ 128 - 1;
  told : capped (l.sum + spec.members_cost (frame_term l.frame) l.part l.sizes l.width (dist_terms (drop l.member-index l.members))) ≡ capped (spec.members_cost (frame_term l.frame) l.part l.sizes l.width (dist_terms l.members));
}

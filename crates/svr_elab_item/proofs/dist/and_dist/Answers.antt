use Rattle.std.proofs.Common.{option_map}
use Rattle.svr_typed.specs.ItemTerm.{dist_term}
use Rattle.svr_elab_part.specs.Seen.{range_part_of}
use Rattle.svr_elab_item.specs.Seen.{dist_part, weight_part}
use Rattle.svr_elab_item.proofs.Lists.{more_seen}
use Rattle.svr_elab_item.proofs.Forms.{and_dist_is}
use Rattle.svr_elab_item.proofs.dist.and_dist.Goals as goal

pub returns : goal.returns
returns c =
    and_dist_is (dist_part c.args.dist) (range_part_of c.args.range) (option_map weight_part c.args.weight) _ _ _ _ _ _
    (more_seen dist_term c.args.dist.tree c.in_ok-and_more.field-0 c.member_tree.result _ c.in_ok-and_more.ensures c.member_tree.ensures)
    c.weight_known-weight_fault.ensures.fault c.earlier-member_fault.ensures c.earlier-fault.ensures c.weight_known-weight_fault.ensures.cyclic c.is_any_cyclic-cyclic.ensures

use Rattle.std.proofs.Common.{refl}
use Rattle.svr_typed.specs.ExprTerm.{expr_term}
use Rattle.svr_elab_part.specs.Seen.{part_of}
use Rattle.svr_elab_item.specs.Seen.{unique_part}
use Rattle.svr_elab_item.proofs.Lists.{more_seen}
use Rattle.svr_elab_item.proofs.Forms.{and_member_is}
use Rattle.svr_elab_item.proofs.unique.and_member.Goals as goal

pub returns : goal.returns
returns c =
    and_member_is (unique_part c.args.unique) (part_of c.args.part) _ _ _ _ _ _ _ _ _
    (more_seen expr_term c.args.unique.trees c.in_ok-and_more.field-0 c.args.part.tree _ c.in_ok-and_more.ensures refl) c.or_else-first.ensures
    c.is_cyclic_root.ensures c.when-cyclic.ensures c.differs.ensures c.when-other.ensures c.earlier.ensures c.earlier-2.ensures c.earlier-fault.ensures

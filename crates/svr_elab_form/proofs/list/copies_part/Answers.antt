use Rattle.std.proofs.Common.{refl, ◌∙◌}
use Rattle.svr_elab_form.proofs.list.copies_part.Goals as goal

pub returns : goal.returns
returns c = c.node_part.ensures ∙ rw (c.in_ok-node.ensures, c.total_shape.ensures, c.copies_fault-fault.ensures, c.is_too_few.ensures, c.copies_total-total.ensures, c.known-number.ensures.value, c.and-reads.ensures) refl

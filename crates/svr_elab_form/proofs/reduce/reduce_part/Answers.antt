use Rattle.std.proofs.Common.{refl, ◌∙◌}
use Rattle.svr_elab_form.proofs.reduce.reduce_part.Goals as goal

pub returns : goal.returns
returns c = c.node_part.ensures ∙ rw (c.in_ok-node.ensures, c.reduce_fault-fault.ensures, c.no_constant-reads.ensures, c.and.ensures) refl

use Rattle.std.proofs.Common.{refl, ◌∙◌}
use Rattle.svr_elab_form.proofs.operator.choice_part.Goals as goal

pub returns : goal.returns
returns c = c.node_part.ensures ∙ rw (c.in_ok-node.ensures, c.choice_shape-shape.ensures, c.earlier-fault.ensures, c.earlier.ensures, c.and-reads.ensures, c.and.ensures) refl

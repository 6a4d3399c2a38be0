use Rattle.std.proofs.Common.{refl, ◌∙◌}
use Rattle.svr_elab_form.proofs.operator.unary_part.Goals as goal

pub returns : goal.returns
returns c = c.node_part.ensures ∙ rw (c.in_ok-node.ensures, c.unary_shape-shape.ensures) refl

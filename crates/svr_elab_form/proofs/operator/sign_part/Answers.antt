use Rattle.std.proofs.Common.{refl, ◌∙◌}
use Rattle.svr_elab_form.proofs.operator.sign_part.Goals as goal

pub returns : goal.returns
returns c = c.node_part.ensures ∙ rw (c.in_ok-node.ensures, c.sign_shape-shape.ensures) refl

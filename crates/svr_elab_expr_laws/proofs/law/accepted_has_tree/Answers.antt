use Rattle.svr_elab_expr_laws.proofs.HasTree as tree
use Rattle.svr_elab_expr_laws.proofs.law.accepted_has_tree.Goals as goal

pub returns : goal.returns
returns c = tree.accepted_has_tree

use Rattle.svr_elab_expr_laws.proofs.Ready as ready
use Rattle.svr_elab_expr_laws.proofs.law.accepted_is_typed.Goals as goal

pub returns : goal.returns
returns c = ready.accepted_is_typed

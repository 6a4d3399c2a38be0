use Rattle.svr_elab_expr_laws.proofs.ReadFit.{low_fits}
use Rattle.svr_elab_expr_laws.proofs.law.low_expressions_fit.Goals as goal

pub returns : goal.returns
returns c = low_fits

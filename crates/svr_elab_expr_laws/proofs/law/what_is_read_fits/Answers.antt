use Rattle.svr_elab_expr_laws.proofs.ReadFit.{read_fits, expr_fits}
use Rattle.svr_elab_expr_laws.proofs.law.what_is_read_fits.Goals as goal

pub returns-clause-read : goal.returns-clause-read
returns-clause-read c = read_fits

pub returns-clause-spelled : goal.returns-clause-spelled
returns-clause-spelled c = expr_fits

use Rattle.svr_elab_fit_laws.proofs.ReadScript.{read_script_fits}
use Rattle.svr_elab_fit_laws.proofs.law.what_is_read_fits.Goals as goal

pub returns : goal.returns
returns c = read_script_fits

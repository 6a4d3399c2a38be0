use Rattle.svr_elab_form.proofs.Shown.{elab_shown}
use Rattle.svr_elab_form.proofs.law.keeps_the_first.Goals as goal

pub returns : goal.returns
returns c = elab_shown

use Rattle.svr_design.proofs.Listed.{lawful}
use Rattle.svr_design.proofs.forms.each_form_is_lawful.Goals as goal

pub returns : goal.returns
returns c = lawful

use Rattle.svr_elab_lawful_laws.proofs.Constants.{constants_have_numbers}
use Rattle.svr_elab_lawful_laws.proofs.law.constants_have_numbers.Goals as goal

pub returns : goal.returns
returns c = constants_have_numbers

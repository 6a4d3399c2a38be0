use Rattle.svr_elab_lawful_laws.proofs.Can.{random_is_lawful}
use Rattle.svr_elab_lawful_laws.proofs.law.random_is_lawful.Goals as goal

pub returns : goal.returns
returns c = random_is_lawful

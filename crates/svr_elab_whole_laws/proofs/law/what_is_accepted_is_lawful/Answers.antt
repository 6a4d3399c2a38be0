use Rattle.svr_elab_whole_laws.proofs.Whole.{what_is_accepted_is_lawful, what_is_read_and_accepted_is_lawful}
use Rattle.svr_elab_whole_laws.proofs.law.what_is_accepted_is_lawful.Goals as goal

pub returns-clause-accepted : goal.returns-clause-accepted
returns-clause-accepted c = what_is_accepted_is_lawful

pub returns-clause-read : goal.returns-clause-read
returns-clause-read c = what_is_read_and_accepted_is_lawful

use Rattle.svr_elab_lawful_laws.proofs.Follow.{objects_are_made}
use Rattle.svr_elab_lawful_laws.proofs.law.objects_are_made.Goals as goal

pub returns : goal.returns
returns c = objects_are_made

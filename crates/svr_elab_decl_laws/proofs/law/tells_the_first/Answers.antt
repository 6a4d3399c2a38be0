use Rattle.svr_elab_decl_laws.proofs.Shown.{first_told}
use Rattle.svr_elab_decl_laws.proofs.law.tells_the_first.Goals as goal

pub returns : goal.returns
returns c = first_told

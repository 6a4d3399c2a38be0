use Rattle.svr_elab_decl_laws.proofs.Shown.{types_and_classes_shown}
use Rattle.svr_elab_decl_laws.proofs.law.keeps_the_first.Goals as goal

pub returns : goal.returns
returns c = types_and_classes_shown

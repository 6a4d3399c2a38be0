use Rattle.svr_elab_lawful_laws.proofs.Named.{blocks_are_named}
use Rattle.svr_elab_lawful_laws.proofs.law.blocks_are_named.Goals as goal

pub returns : goal.returns
returns c = blocks_are_named

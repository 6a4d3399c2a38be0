use Rattle.svr_elab_lawful_laws.proofs.Blocks.{blocks_are_few}
use Rattle.svr_elab_lawful_laws.proofs.law.blocks_are_few.Goals as goal

pub returns : goal.returns
returns c = blocks_are_few

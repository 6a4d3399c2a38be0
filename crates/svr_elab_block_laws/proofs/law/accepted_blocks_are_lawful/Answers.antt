use Rattle.svr_elab_block_laws.proofs.Blocks.{accepted_blocks_are_lawful}
use Rattle.svr_elab_block_laws.proofs.law.accepted_blocks_are_lawful.Goals as goal

pub returns : goal.returns
returns c = accepted_blocks_are_lawful

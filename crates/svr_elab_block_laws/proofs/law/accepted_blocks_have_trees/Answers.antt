use Rattle.svr_elab_block_laws.proofs.Blocks.{accepted_blocks_have_trees}
use Rattle.svr_elab_block_laws.proofs.law.accepted_blocks_have_trees.Goals as goal

pub returns : goal.returns
returns c = accepted_blocks_have_trees

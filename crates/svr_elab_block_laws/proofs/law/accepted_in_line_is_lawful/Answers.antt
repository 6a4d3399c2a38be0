use Rattle.svr_elab_block_laws.proofs.Blocks.{accepted_in_line_is_lawful}
use Rattle.svr_elab_block_laws.proofs.law.accepted_in_line_is_lawful.Goals as goal

pub returns : goal.returns
returns c = accepted_in_line_is_lawful

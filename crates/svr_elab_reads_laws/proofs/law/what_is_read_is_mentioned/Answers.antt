use Rattle.svr_elab_reads_laws.proofs.Three.{accepted_mentions}
use Rattle.svr_elab_reads_laws.proofs.law.what_is_read_is_mentioned.Goals as goal

pub returns : goal.returns
returns c = accepted_mentions

use Rattle.svr_token.specs.Tables.{system_of}
use Rattle.svr_token.proofs.tables.system_name.Goals as goal

pub returns : goal.returns
unfolding system_of
returns c = c.entry.ensures

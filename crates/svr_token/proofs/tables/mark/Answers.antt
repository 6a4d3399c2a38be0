use Rattle.svr_token.specs.Tables.{mark_of}
use Rattle.svr_token.proofs.tables.mark.Goals as goal

pub returns : goal.returns
unfolding mark_of
returns c = c.entry.ensures

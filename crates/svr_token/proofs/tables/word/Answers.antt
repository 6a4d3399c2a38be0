use Rattle.svr_token.specs.Tables.{word_of}
use Rattle.svr_token.proofs.tables.word.Goals as goal

pub returns : goal.returns
unfolding word_of
returns c = c.entry.ensures

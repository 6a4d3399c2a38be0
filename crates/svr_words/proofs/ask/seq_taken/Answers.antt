use Rattle.svr_words.proofs.Taking.{seq_asked, seq_is_taken}
use Rattle.svr_words.proofs.ask.seq_taken.Goals as goal

pub seq_of-requires : goal.seq_of-requires
seq_of-requires c = seq_is_taken c.in_ok-command.command c.in-Ok.matches c.in_ok-command.ensures c.in-Ok.ensures.parsed

pub returns-in-Ok-clause-some : goal.returns-in-Ok-clause-some
returns-in-Ok-clause-some c =
    seq_asked _ c.in_ok-command.command c.in-Ok.matches c.try_get_matches_from.result _ _ c.requires c.in_ok-command.ensures c.in-Ok.is c.try_get_matches_from.ensures.kinds c.try_get_matches_from.ensures.matches c.seq_of.ensures.seed c.seq_of.ensures.count

use Rattle.svr_words.proofs.Taking.{check_asked}
use Rattle.svr_words.proofs.ask.check_taken.Goals as goal

pub returns-in-Ok-clause-taken : goal.returns-in-Ok-clause-taken
returns-in-Ok-clause-taken c = λ e.
    check_asked _ c.check_command-command.result _ c.try_get_matches_from.result c.requires c.check_command-command.ensures c.in-Ok.is c.try_get_matches_from.ensures.kinds c.try_get_matches_from.ensures.matches

use Rattle.svr_words.proofs.Taking.{cover_asked, cover_is_taken}
use Rattle.svr_words.proofs.ask.cover_taken.Goals as goal

pub options-requires : goal.options-requires
options-requires c = cover_is_taken c.in_ok-command.command c.in-Ok.matches c.in_ok-command.ensures c.in-Ok.ensures.parsed

pub returns-in-Ok-clause-some : goal.returns-in-Ok-clause-some
returns-in-Ok-clause-some c = (
  cover_asked _ c.in_ok-command.command c.in-Ok.matches c.try_get_matches_from.result _ c.requires c.in_ok-command.ensures c.in-Ok.is c.try_get_matches_from.ensures.kinds c.try_get_matches_from.ensures.matches c.options.ensures.options,
  c.options.ensures.ranges,
)

use Rattle.svr_words.proofs.Taking.{load_asked, load_is_taken}
use Rattle.svr_words.proofs.ask.load_taken.Goals as goal

pub load_of-requires : goal.load_of-requires
load_of-requires c = load_is_taken c.in_ok-command.command c.in-Ok.matches c.in_ok-command.ensures c.in-Ok.ensures.parsed

pub returns-in-Ok-clause-some : goal.returns-in-Ok-clause-some
returns-in-Ok-clause-some c = (
  load_asked _ c.in_ok-command.command c.in-Ok.matches c.try_get_matches_from.result _ _ c.requires c.in_ok-command.ensures c.in-Ok.is c.try_get_matches_from.ensures.kinds c.try_get_matches_from.ensures.matches c.load_of.ensures.count c.load_of.ensures.options,
  c.load_of.ensures.small,
  c.load_of.ensures.ranges,
)

use Rattle.svr_words.proofs.Taking.{asked, run_is_taken}
use Rattle.svr_words.proofs.ask.taken.Goals as goal

pub run_of-requires : goal.run_of-requires
run_of-requires c = run_is_taken c.in_ok-command.command c.in-Ok.matches c.in_ok-command.ensures c.in-Ok.ensures.parsed

pub returns-in-Ok-clause-some : goal.returns-in-Ok-clause-some
returns-in-Ok-clause-some c = (
  asked _ c.in_ok-command.command c.in-Ok.matches c.try_get_matches_from.result _ c.requires c.in_ok-command.ensures c.in-Ok.is c.try_get_matches_from.ensures.kinds c.try_get_matches_from.ensures.matches c.run_of.ensures.run,
  c.run_of.ensures.ranges,
)

use Rattle.svr_token.specs.Names.{names_of}
use Rattle.svr_cover_checked.specs.Refusals.{refusals}
use Rattle.svr_coverage.proofs.Told.{fine_counters, memory_refused}
use Rattle.svr_coverage.proofs.counters.checked.Goals as goal

pub returns-in-Ok-clause-counters : goal.returns-in-Ok-clause-counters
returns-in-Ok-clause-counters c =
    fine_counters (names_of c.args.names) c.args.classes.now c.args.flats.now c.args.groups.now c.counters_of.result c.in-Ok.ensures c.counters_of.ensures.counters

pub returns-in-Ok-clause-refused : goal.returns-in-Ok-clause-refused
returns-in-Ok-clause-refused c =
    memory_refused c.args.names.text.now c.args.names.tokens.now (refusals (names_of c.args.names) c.args.classes.now c.args.flats.now c.args.groups.now) c.counters_of.result c.counters_of.ensures.memory

pub returns-in-Err-clause-refused : goal.returns-in-Err-clause-refused
returns-in-Err-clause-refused c = c.placed.ensures (refusals (names_of c.args.names) c.args.classes.now c.args.flats.now c.args.groups.now) c.in-Err.ensures

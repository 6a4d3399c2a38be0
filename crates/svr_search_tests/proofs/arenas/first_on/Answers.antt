use Rattle.svr_arena.specs.Layout.{watched}
use Rattle.svr_search_tests.proofs.Firsts.{first_on}
use Rattle.svr_search_tests.proofs.arenas.first_on.Goals as goal

pub returns : goal.returns
returns c = first_on (watched c.args.arena.now c.args.lit) c.first_watch.result c.first_watch.ensures

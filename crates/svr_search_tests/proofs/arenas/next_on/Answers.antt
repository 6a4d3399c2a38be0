use Rattle.svr_arena.specs.Layout.{watched}
use Rattle.svr_search_tests.proofs.Firsts.{next_on}
use Rattle.svr_search_tests.proofs.arenas.next_on.Goals as goal

pub returns : goal.returns
returns c = next_on (watched c.args.arena.now c.args.lit) c.args.clause c.next_watch.result c.next_watch.ensures

use Rattle.svr_core.specs.Cores.{places_of}
use Rattle.svr_core.proofs.Gathered.{all_put}
use Rattle.svr_core.proofs.search.question.Goals as goal

pub returns : goal.returns
returns c = all_put c.args.base.now c.args.groups.now c.groups_before.result.now c.args.place (places_of c.args.core.now) c.in_ok-lits.lits.items _ c.groups_before.ensures c.in_ok-lits.ensures c.in_ok-put_core.ensures

use Rattle.svr_elab_unit.proofs.Homes.{home_added}
use Rattle.svr_elab_unit.proofs.listed.and_home.Goals as goal

pub returns-in-Ok : goal.returns-in-Ok
returns-in-Ok c = home_added _ _ _ c.in-Some.property c.args.property c.in-Ok.ensures.keys c.of.ensures c.in-Some.is

use Rattle.svr_elab_names.specs.Tables.{space_of}
use Rattle.svr_elab.proofs.Joined.{listed_are}
use Rattle.svr_elab.proofs.whole.listed.Goals as goal

pub returns : goal.returns
returns c = listed_are (space_of c.args.names.now) _ _ _ c.args.unit.now.stmts c.in_ok-listed_in_all.ensures c.new-homes.ensures.empty c.as_slice.ensures

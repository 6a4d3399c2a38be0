use Rattle.std.proofs.Common.{arith}
use Rattle.svr_typed.specs.StmtTerm.{design_term}
use Rattle.svr_run.proofs.Sampling.{ends_of}
use Rattle.svr_run.proofs.run.run_script_extra.Goals as goal

pub run_watched-end-requires-clause-room : goal.run_watched-end-requires-clause-room
run_watched-end-requires-clause-room g c = omega (arith, c.requires.can_run.few)

pub returns : goal.returns
returns g c = ends_of _ _ _ (design_term c.args.design.now) c.args.opts c.args.extra _ _ _ c.run_watched-end.ensures

use Rattle.svr_typed.specs.StmtTerm.{design_term}
use Rattle.svr_run_tests.proofs.Runs.{can_run}
use Rattle.svr_run_tests.proofs.running.run_design.Goals as goal

pub run_script-end-requires-clause-can_run : goal.run_script-end-requires-clause-can_run
run_script-end-requires-clause-can_run c = can_run (design_term c.args.design.now) c.args.opts c.requires.allowed c.requires.lawful

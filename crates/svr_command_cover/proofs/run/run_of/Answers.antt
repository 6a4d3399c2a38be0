use Rattle.svr_typed.specs.StmtTerm.{design_term}
use Rattle.svr_run_laws.proofs.Reached.{lawful_can_run}
use Rattle.svr_command_cover.proofs.Covered.{room, ended_answers, limit_answers, stop_answers}
use Rattle.svr_command_cover.proofs.run.run_of.Goals as goal

pub run_watched-end-requires-clause-can_run : goal.run_watched-end-requires-clause-can_run
run_watched-end-requires-clause-can_run g c = lawful_can_run (design_term c.args.design.now) c.args.opts c.requires.allowed.2 c.requires.lawful

pub run_watched-end-requires-clause-room : goal.run_watched-end-requires-clause-room
run_watched-end-requires-clause-room g c = room (design_term c.args.design.now) c.args.counters.cover c.requires.lawful c.requires.fresh

pub returns-in-Ended : goal.returns-in-Ended
returns-in-Ended g c = λ text ready.
    ended_answers c.args.opts text (design_term c.args.design.now) c.args.counters ready c.in-Ended.counts c.as_slice-named.result.now c.status_of.result c.tell_counters.result _ _ _ _ _ (rw c.in-Ended.is at c.run_watched-end.ensures) c.status_of.ensures c.as_slice-named.ensures c.tell_counters.ensures

pub returns-in-Limit : goal.returns-in-Limit
returns-in-Limit g c = λ text ready.
    limit_answers c.args.opts text (design_term c.args.design.now) c.args.counters ready c.as_slice-named.result.now c.tell_counters-in-Limit.result _ _ _ _ _ (rw c.in-Limit.is at c.run_watched-end.ensures) c.as_slice-named.ensures c.tell_counters-in-Limit.ensures

pub returns : goal.returns
returns g c = λ text ready. stop_answers c.args.opts text (design_term c.args.design.now) c.args.counters ready c.in-Stopped.why c.stopped_as.result _ _ (rw c.in-Stopped.is at c.run_watched-end.ensures) c.stopped_as.ensures

use Rattle.svr_typed.specs.StmtTerm.{design_term}
use Rattle.svr_run_laws.proofs.Reached.{lawful_can_run}
use Rattle.svr_answer.proofs.Runs.{ended_answers, limit_answers, cut_for_memory, cut_by_fault}
use Rattle.svr_answer.proofs.answer.run_of.Goals as goal

pub run_script_extra-requires-clause-can_run : goal.run_script_extra-requires-clause-can_run
run_script_extra-requires-clause-can_run g c = lawful_can_run (design_term c.args.design.now) c.args.asked.opts c.requires.ranges.2 c.requires.lawful

pub returns-in-Ended : goal.returns-in-Ended
returns-in-Ended g c = λ text small read.
    ended_answers (design_term c.args.design.now) c.args.asked text small read c.in-Ended.counts c.status_of.result _ _ (rw c.in-Ended.is at c.run_script_extra.ensures) c.status_of.ensures

pub returns-in-Limit : goal.returns-in-Limit
returns-in-Limit g c = λ text small read. limit_answers (design_term c.args.design.now) c.args.asked text small read _ _ (rw c.in-Limit.is at c.run_script_extra.ensures)

pub returns-in-Stopped-NoMemory : goal.returns-in-Stopped-NoMemory
returns-in-Stopped-NoMemory g c = λ text small read. cut_for_memory (design_term c.args.design.now) c.args.asked text small read _ _ (rw (c.in-Stopped-NoMemory.is, c.in-Stopped-NoMemory.field-0-is) at c.run_script_extra.ensures)

pub returns-in-Stopped-WriteFault : goal.returns-in-Stopped-WriteFault
returns-in-Stopped-WriteFault g c = λ text small read. cut_by_fault (design_term c.args.design.now) c.args.asked text small read _ _ (rw (c.in-Stopped-WriteFault.is, c.in-Stopped-WriteFault.field-0-is) at c.run_script_extra.ensures)

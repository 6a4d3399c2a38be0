use Rattle.svr_typed.specs.StmtTerm.{design_term}
use Rattle.svr_run_laws.proofs.Reached.{lawful_can_run}
use Rattle.svr_answer.proofs.Loads.{ended_answers, limit_answers, cut_for_memory, cut_by_fault, never_rose}
use Rattle.svr_answer.proofs.made.load_design.Goals as goal

pub run_script-requires-clause-can_run : goal.run_script-requires-clause-can_run
run_script-requires-clause-can_run g c = lawful_can_run (design_term c.args.design.now) c.args.asked.opts c.requires.ranges.2 c.requires.lawful

pub returns-in-Ended : goal.returns-in-Ended
returns-in-Ended g c = λ read.
    ended_answers c.args.asked.count c.args.asked.opts (design_term c.args.design.now) read c.in-Ended.counts c.tell.result _ _ _ _ _ _ (rw c.in-Ended.is at c.run_script.ensures) c.tell.ensures

pub returns-in-Limit : goal.returns-in-Limit
returns-in-Limit g c = λ read. limit_answers c.args.asked.count c.args.asked.opts (design_term c.args.design.now) read _ _ _ _ (rw c.in-Limit.is at c.run_script.ensures)

pub returns-in-Stopped-NoMemory : goal.returns-in-Stopped-NoMemory
returns-in-Stopped-NoMemory g c = λ read. cut_for_memory c.args.asked.count c.args.asked.opts (design_term c.args.design.now) read _ _ _ _ (rw (c.in-Stopped-NoMemory.is, c.in-Stopped-NoMemory.field-0-is) at c.run_script.ensures)

pub returns-in-Stopped-WriteFault : goal.returns-in-Stopped-WriteFault
returns-in-Stopped-WriteFault g c = λ read. cut_by_fault c.args.asked.count c.args.asked.opts (design_term c.args.design.now) read _ _ _ _ never_rose (rw (c.in-Stopped-WriteFault.is, c.in-Stopped-WriteFault.field-0-is) at c.run_script.ensures)

use Rattle.std.proofs.Common.{◌∙◌, sym, None, Some}
use Rattle.svr_seq.proofs.Pushed.{popped, popped_smaller}
use Rattle.svr_seq.proofs.stack.next_job.Goals as goal

pub returns-in-Some-2-clause-tasks : goal.returns-in-Some-2-clause-tasks
returns-in-Some-2-clause-tasks c =
    sym c.loop-work.invariant
    ∙ popped c.loop-work.stack c.pop.new.self c.take_apart.new.stack c.in-Some.work c.in_ok-take_apart.field-0 (Some c.in-Some-2.job) c.in-Some.ensures c.in-Some-2.is c.in_ok-take_apart.ensures.tasks

pub loop-work-smaller : goal.loop-work-smaller
loop-work-smaller c = popped_smaller c.loop-work.stack c.pop.new.self c.take_apart.new.stack c.in-Some.work c.in_ok-take_apart.field-0 c.in-Some.ensures c.in-None.is c.in_ok-take_apart.ensures.size

pub loop-work-preserved : goal.loop-work-preserved
loop-work-preserved c =
    sym (popped c.loop-work.stack c.pop.new.self c.take_apart.new.stack c.in-Some.work c.in_ok-take_apart.field-0 None c.in-Some.ensures c.in-None.is c.in_ok-take_apart.ensures.tasks)
    ∙ c.loop-work.invariant

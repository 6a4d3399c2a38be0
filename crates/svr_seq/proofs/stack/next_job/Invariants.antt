use Rattle.std.proofs.Common.{◌≡◌}
use Rattle.svr_seq.specs.Stack.{tasks_on, stack_size}
use Rattle.svr_seq.proofs.stack.next_job.Given as goal

abbrev pub invariant-loop-work : goal.invariant-loop-work
invariant-loop-work l = tasks_on l.stack ≡ tasks_on l.fn.stack

abbrev pub decreases-loop-work : goal.decreases-loop-work
decreases-loop-work l = stack_size l.stack

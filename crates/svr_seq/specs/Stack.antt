-- The stack of a line: what is still to do, the next last.
use Rattle.std.specs.Prelude.{◌==◌, ℕ, Bool, true, false, ◌+◌, ◌*◌, List, [], ◌∷◌, ◌++◌, map, replicate, length, Option, Some, None}
use Rattle.svr_seq.specs.declared.stack.Work.{Work}
use Rattle.svr_seq.specs.declared.stack.Work.TheVariants as w
use Rattle.svr_seq.specs.declared.stack.Job.{Job}
use Rattle.svr_seq.specs.declared.stack.Job.TheVariants as j
use Rattle.svr_seq.specs.SeqTerm.{PartTerm, expand, block, act_term, act_terms, part_terms}
use Rattle.svr_seq.specs.Line.{Task, expansion, statement, parts_tasks}

-- the task that a job is, and those that were found
abbrev pub task_of : Job → Task
task_of (j.Expand prod) = expansion prod
task_of (j.Perform act) = statement (act_term act.now)

abbrev pub tasks_found : Option Job → List Task
tasks_found None = []
tasks_found (Some job) = task_of job ∷ []

-- the tasks of a piece of work, in order
abbrev pub work_tasks : Work → List Task
work_tasks (w.Repeat prod times) = replicate times (expansion prod)
work_tasks (w.Parts parts) = parts_tasks (part_terms parts.now)
work_tasks (w.Acts acts) = map statement (act_terms acts.now)
work_tasks (w.One act) = statement (act_term act.now) ∷ []

-- those of a stack
abbrev pub tasks_on : List Work → List Task
tasks_on [] = []
tasks_on (x ∷ xs) = tasks_on xs ++ work_tasks x

-- nothing is to be done for a part
abbrev pub is_idle : PartTerm → Bool
is_idle (expand p n) = n == 0
is_idle (block []) = true
is_idle (block (a ∷ acts)) = false

-- how much there is to take apart, in a piece of work and on a stack
abbrev pub work_size : Work → ℕ
work_size (w.Repeat prod times) = 1
work_size (w.Parts parts) = 1 + 2 * length parts.now
work_size (w.Acts acts) = 1
work_size (w.One act) = 1

abbrev pub stack_size : List Work → ℕ
stack_size [] = 0
stack_size (x ∷ xs) = work_size x + stack_size xs

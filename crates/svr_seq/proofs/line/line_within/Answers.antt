use Rattle.std.proofs.Common.{◌-◌, List, [], ◌∷◌, ◌++◌, ap, ◌∙◌, arith}
use Rattle.svr_seq.specs.declared.stack.Work.{Work}
use Rattle.svr_seq.specs.declared.stack.Work.TheVariants as w
use Rattle.svr_seq.specs.SeqTerm.{seq_term}
use Rattle.svr_seq.specs.Line.{Line}
use Rattle.svr_seq.specs.Stack.{task_of, tasks_on}
use Rattle.svr_seq.proofs.Pushed.{job_found, none_found}
use Rattle.svr_seq.proofs.Steps.{started, step, ended, limited}
use Rattle.svr_seq.proofs.line.line_within.Goals as goal

pub loop-unit-init : goal.loop-unit-init
loop-unit-init c =
    started (seq_term c.args.seq.now) c.args.units _ _ c.args.draws.now
    (ap tasks_on (c.in_ok-push.ensures.ok ∙ ap (λ (l : List Work). l ++ w.Repeat c.args.seq.now.start 1 ∷ []) c.new-stack.ensures))
    c.new-names.ensures

pub loop-unit-preserved : goal.loop-unit-preserved
loop-unit-preserved c =
    let found = job_found c.loop-unit.stack c.next_job.new.stack c.in_ok-next_job.field-0 c.in-Some.job c.in-Some.is c.in_ok-next_job.ensures.tasks in
    let performed = c.in_ok-perform-in-Some.ensures in
    step (seq_term c.args.seq.now) c.args.units c.loop-unit._unit (task_of c.in-Some.job) _ _ _ _ _ _ _ _ c.loop-unit-test.true found performed.tasks performed.names performed.words c.loop-unit.invariant

-- in the loop nothing is left to do
pub returns-in-None : goal.returns-in-None
returns-in-None c =
    let none = none_found c.loop-unit.stack c.next_job.new.stack c.in_ok-next_job.field-0 c.in-None.is c.in_ok-next_job.ensures.tasks c.in_ok-next_job.ensures.none in
    let line = ended (seq_term c.args.seq.now) (c.args.units - c.loop-unit._unit) (tasks_on c.loop-unit.stack) c.loop-unit.names c.loop-unit.draws _ none c.loop-unit.invariant in
    record { line = ap (λ (l : Line). l.end) line; words = ap (λ (l : Line). l.words) line }

-- or behind it
pub returns-in-None-2 : goal.returns-in-None-2
returns-in-None-2 c =
    let none = none_found c.loop-unit.stack c.next_job-2.new.stack c.in_ok-next_job-2.field-0 c.in-None-2.is c.in_ok-next_job-2.ensures.tasks c.in_ok-next_job-2.ensures.none in
    let line = ended (seq_term c.args.seq.now) (c.args.units - c.loop-unit._unit) (tasks_on c.loop-unit.stack) c.loop-unit.names c.loop-unit.draws _ none c.loop-unit.invariant in
    record { line = ap (λ (l : Line). l.end) line; words = ap (λ (l : Line). l.words) line }

-- something is left, and no unit
pub returns : goal.returns
returns c =
    let found = job_found c.loop-unit.stack c.next_job-2.new.stack c.in_ok-next_job-2.field-0 c.in-Some-2.field-0 c.in-Some-2.is c.in_ok-next_job-2.ensures.tasks in
    let line = limited (seq_term c.args.seq.now) (c.args.units - c.loop-unit._unit) (task_of c.in-Some-2.field-0) (tasks_on c.loop-unit.stack) (tasks_on c.next_job-2.new.stack) c.loop-unit.names c.loop-unit.draws _ (omega (arith, c.loop-unit-test.false)) found c.loop-unit.invariant in
    record { line = ap (λ (l : Line). l.end) line; words = ap (λ (l : Line). l.words) line }

-- The tasks and the size of a stack when pieces of work are put on it.
use Rattle.std.proofs.Common.{◌≡◌, ◌<◌, ◌≤◌, ◌+◌, ◌-◌, ℕ, zero, suc, refl, sym, ap, ◌∙◌, List, [], ◌∷◌, ◌++◌, map, drop, length, get_or, append_assoc, append-nil, subst, Option, Some, None, true, arith}
use Rattle.std.specs.Prelude.{replicate, IfNone}
use Rattle.std.proofs.lemmas.Bool.{eqb-true, false≢true}
use Rattle.svr_seq.specs.declared.stack.Work.{Work}
use Rattle.svr_seq.specs.declared.stack.Work.TheVariants as w
use Rattle.svr_seq.specs.declared.stack.Job.{Job}
use Rattle.svr_seq.specs.declared.tree.Act.{Act}
use Rattle.svr_seq.specs.declared.tree.Part.{Part}
use Rattle.svr_seq.specs.SeqTerm.{PartTerm, expand, block, act_term, act_terms, part_term, part_terms}
use Rattle.svr_seq.specs.Line.{Task, expansion, statement, part_tasks, parts_tasks}
use Rattle.svr_seq.specs.Stack.{is_idle, task_of, tasks_found, work_tasks, tasks_on, work_size, stack_size}

pub pushed : (stack : List Work) (x : Work) → tasks_on (stack ++ x ∷ []) ≡ work_tasks x ++ tasks_on stack
pushed [] x = sym (append-nil (work_tasks x))
pushed (y ∷ stack) x = ap (λ (l : List Task). l ++ work_tasks y) (pushed stack x) ∙ append_assoc (work_tasks x) (tasks_on stack) (work_tasks y)

pub pushed_size : (stack : List Work) (x : Work) → stack_size (stack ++ x ∷ []) ≡ work_size x + stack_size stack
pushed_size [] x = refl
pushed_size (y ∷ stack) x = omega (arith, pushed_size stack x)

-- a piece of work whose tasks are known
pub pushed_of : (stack new : List Work) (x : Work) (ts : List Task) → new ≡ stack ++ x ∷ [] → work_tasks x ≡ ts → tasks_on new ≡ ts ++ tasks_on stack
pushed_of stack new x ts put are = ap tasks_on put ∙ pushed stack x ∙ ap (λ (l : List Task). l ++ tasks_on stack) are

-- one expansion off so many, and the others back
pub first_expansion : (p n : ℕ) (old new : List Work) → 0 < n → new ≡ old ++ w.Repeat p (n - 1) ∷ [] → replicate n (expansion p) ++ tasks_on old ≡ expansion p ∷ tasks_on new
first_expansion p zero old new h put = absurd (omega (arith, h))
first_expansion p (suc n) old new h put =
    let others : suc n - 1 ≡ n = omega arith in
    ap (λ (l : List Task). expansion p ∷ l) (sym (pushed_of old new (w.Repeat p (suc n - 1)) (replicate n (expansion p)) put (ap (λ (k : ℕ). replicate k (expansion p)) others)))

-- the first of some statements, and the others back
pub first_act : (acts : List Act) (x : Act) (others : Work) (old new : List Work) → 1 ≤ length acts → x ≡ get_or acts 0 x → new ≡ old ++ others ∷ [] → work_tasks others ≡ map statement (act_terms (drop 1 acts)) → map statement (act_terms acts) ++ tasks_on old ≡ statement (act_term x) ∷ tasks_on new
first_act [] x others old new some is put are = absurd (omega arith)
first_act (y ∷ acts) x others old new some is put are =
    sym (ap (λ (z : Act). statement (act_term z) ∷ tasks_on new) is ∙ ap (λ (l : List Task). statement (act_term y) ∷ l) (pushed_of old new others (map statement (act_terms acts)) put are))

-- the first of some parts, above the others
part_above : (x : PartTerm) (xs : List PartTerm) (others first : Work) (old between new : List Work) → work_tasks others ≡ parts_tasks xs → work_tasks first ≡ part_tasks x → between ≡ old ++ others ∷ [] → new ≡ between ++ first ∷ [] → tasks_on new ≡ parts_tasks (x ∷ xs) ++ tasks_on old
part_above x xs others first old between new behind ahead put above =
    pushed_of between new first (part_tasks x) above ahead
    ∙ ap (λ (l : List Task). part_tasks x ++ l) (pushed_of old between others (parts_tasks xs) put behind)
    ∙ sym (append_assoc (part_tasks x) (parts_tasks xs) (tasks_on old))

-- a part for which there is nothing to do is passed over
idle_tasks : (x : PartTerm) → is_idle x ≡ true → part_tasks x ≡ []
idle_tasks (expand p n) idle = ap (λ (k : ℕ). replicate k (expansion p)) (eqb-true n 0 idle)
idle_tasks (block []) idle = refl
idle_tasks (block (a ∷ acts)) idle = absurd (false≢true idle)

pub passed_over : (parts : List Part) (x : Part) → 1 ≤ length parts → x ≡ get_or parts 0 x → is_idle (part_term x) ≡ true → parts_tasks (part_terms (drop 1 parts)) ≡ parts_tasks (part_terms parts)
passed_over [] x some is idle = absurd (omega arith)
passed_over (y ∷ parts) x some is idle =
    let nothing : part_tasks (part_term y) ≡ [] = ap (λ (z : Part). part_tasks (part_term z)) (sym is) ∙ idle_tasks (part_term x) idle in
    ap (λ (l : List Task). l ++ parts_tasks (part_terms parts)) (sym nothing)

pub none_left : (parts : List Part) → length parts < 1 → parts_tasks (part_terms parts) ≡ []
none_left [] h = refl
none_left (x ∷ parts) h = absurd (omega arith)

-- the piece that was on top was taken apart
pub popped : (old rest new : List Work) (x : Work) (found known : Option Job) → old ≡ rest ++ x ∷ [] → found ≡ known → work_tasks x ++ tasks_on rest ≡ tasks_found found ++ tasks_on new → tasks_on old ≡ tasks_found known ++ tasks_on new
popped old rest new x found known put is apart = ap tasks_on put ∙ pushed rest x ∙ apart ∙ ap (λ (o : Option Job). tasks_found o ++ tasks_on new) is

pub popped_smaller : (old rest new : List Work) (x : Work) (found : Option Job) → old ≡ rest ++ x ∷ [] → found ≡ None → IfNone found (stack_size new < work_size x + stack_size rest) → stack_size new < stack_size old
popped_smaller old rest new x found put none less =
    let P : Option Job → Type 0 = λ o. IfNone o (stack_size new < work_size x + stack_size rest) in
    let size : stack_size old ≡ work_size x + stack_size rest = ap stack_size put ∙ pushed_size rest x in
    let under : stack_size new < work_size x + stack_size rest = subst P none less in
    omega arith

-- the next job that was found, if any
pub job_found : (old new : List Work) (found : Option Job) (job : Job) → found ≡ Some job → tasks_on old ≡ tasks_found found ++ tasks_on new → tasks_on old ≡ task_of job ∷ tasks_on new
job_found old new found job some are = are ∙ ap (λ (o : Option Job). tasks_found o ++ tasks_on new) some

pub none_found : (old new : List Work) (found : Option Job) → found ≡ None → tasks_on old ≡ tasks_found found ++ tasks_on new → IfNone found (new ≡ []) → tasks_on old ≡ []
none_found old new found none are empty =
    let P : Option Job → Type 0 = λ o. IfNone o (new ≡ []) in
    are ∙ ap (λ (o : Option Job). tasks_found o ++ tasks_on new) none ∙ ap tasks_on (subst P none empty)

pub first_part : (parts : List Part) (x : Part) (others first : Work) (old between new : List Work)
    → 1 ≤ length parts → x ≡ get_or parts 0 x → between ≡ old ++ others ∷ [] → new ≡ between ++ first ∷ []
    → work_tasks first ≡ part_tasks (part_term x) → work_tasks others ≡ parts_tasks (part_terms (drop 1 parts)) → tasks_on new ≡ parts_tasks (part_terms parts) ++ tasks_on old
first_part [] x others first old between new some is put above ahead behind = absurd (omega arith)
first_part (y ∷ parts) x others first old between new some is put above ahead behind =
    part_above (part_term y) (part_terms parts) others first old between new behind (ahead ∙ ap (λ (z : Part). part_tasks (part_term z)) is) put above

-- the sizes of what they leave
pub size_above : (n : ℕ) (others first : Work) (old between new : List Work) → between ≡ old ++ others ∷ [] → new ≡ between ++ first ∷ [] → work_size first ≡ 1 → work_size others + 1 < n → stack_size new < n + stack_size old
size_above n others first old between new put above one less =
    let a = ap stack_size put ∙ pushed_size old others in
    let b = ap stack_size above ∙ pushed_size between first in
    omega (arith, a, b)

use Rattle.std.proofs.Common.{◌<◌, ◌+◌, ◌*◌, List, ◌++◌, ap, ◌∙◌, sym, subst, length, arith, length-drop}
use Rattle.std.proofs.lemmas.List.{take_rest}
use Rattle.svr_seq.specs.declared.tree.Part.{Part}
use Rattle.svr_seq.specs.declared.stack.Work.{Work}
use Rattle.svr_seq.specs.SeqTerm.{part_terms}
use Rattle.svr_seq.specs.Line.{Task, parts_tasks}
use Rattle.svr_seq.specs.Stack.{tasks_on, stack_size}
use Rattle.svr_seq.proofs.Pushed.{first_part, size_above, none_left}
use Rattle.svr_seq.proofs.stack.open_parts.Goals as goal

pub returns-then-not-is_idle-clause-tasks : goal.returns-then-not-is_idle-clause-tasks
returns-then-not-is_idle-clause-tasks c =
    first_part c.loop-left.left.now c.part-item.result _ _ c.loop-left.stack _ _ c.in-len1-up.len_at_least c.part-item.is c.in_ok-push.ensures.ok c.in_ok-push-2.ensures.ok c.work_of.ensures.tasks
    (ap (λ (l : List Part). parts_tasks (part_terms l)) (take_rest c.loop-left.left.now 1))
    ∙ (λ i. c.loop-left.invariant.tasks i ++ tasks_on (c.loop-left.invariant.same i))

pub returns-then-not-is_idle-clause-size : goal.returns-then-not-is_idle-clause-size
returns-then-not-is_idle-clause-size c =
    let left = c.loop-left.left.now in
    let above =
    size_above (1 + 2 * length c.args.parts.now) _ _ c.loop-left.stack _ _ c.in_ok-push.ensures.ok c.in_ok-push-2.ensures.ok c.work_of.ensures.size
    (omega (arith, ap length (take_rest left 1), length-drop 1 left, c.in-len1-up.len_at_least, c.loop-left.invariant.shorter)) in
    subst (λ (l : List Work). stack_size c.push-then-not-is_idle.new.self < 1 + 2 * length c.args.parts.now + stack_size l) c.loop-left.invariant.same above

pub returns-clause-tasks : goal.returns-clause-tasks
returns-clause-tasks c =
    let nothing = sym (none_left c.loop-left.left.now c.in_default.len_below) ∙ c.loop-left.invariant.tasks in
    ap tasks_on c.loop-left.invariant.same ∙ ap (λ (l : List Task). l ++ tasks_on c.args.stack.now) nothing

pub returns-clause-size : goal.returns-clause-size
returns-clause-size c = omega (arith, ap stack_size c.loop-left.invariant.same)

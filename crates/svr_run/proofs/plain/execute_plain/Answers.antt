use Rattle.std.proofs.Common.{List, [], ◌≡◌, ◌∷◌, refl, sym, subst, append-nil}
use Rattle.svr_typed.specs.StmtTerm.{StmtTerm, design_term, stmt_term}
use Rattle.svr_world.specs.World.{WorldTerm}
use Rattle.svr_script.specs.Printed.{Event}
use Rattle.svr_script.specs.Statement.{in_order}
use Rattle.svr_script.specs.Run.{Executes}
use Rattle.svr_run.specs.declared.stop.Stop.{Stop}
use Rattle.svr_run.specs.declared.stop.Stop.TheVariants.{NoMemory}
use Rattle.svr_run.specs.Telling.{HasCounts, printing_of}
use Rattle.svr_run.specs.Watching.{watcher}
use Rattle.svr_run.specs.Reached.{Breaks, IsNext, state_of}
use Rattle.svr_run.proofs.Written.{failed_as, tells_nothing}
use Rattle.svr_run.proofs.Sampling.{none_taken}
use Rattle.svr_run.proofs.Walking.{can_execute, is_whole, next_of, one_step, goes_by, breaks_by, halts_here}
use Rattle.svr_run.proofs.Executed.{plain_order, plain_stands, plain_executes}
use Rattle.svr_run.proofs.Naming.{next_named}
use Rattle.svr_run.proofs.plain.execute_plain.Goals as goal

pub execute-requires-clause-named : goal.execute-requires-clause-named
execute-requires-clause-named g c =
    let wa = watcher g.W.Watch.content g.W.Watch.step g.W.Watch.left in
    let d = design_term c.args.script.now.design.now in
    let opts = c.args.script.now.opts in
    let extra = c.args.script.now.extra in
    let x = stmt_term c.args.stmt.now in
    let p = c.args.run.now in
    let now = c.requires.before.0 in
    next_named wa d opts extra x p now (next_of wa d opts extra x (in_order x) p now (plain_order x c.requires.plain) c.requires.going c.requires.before.1)

pub execute-requires-clause-whole : goal.execute-requires-clause-whole
execute-requires-clause-whole g c =
    let wa = watcher g.W.Watch.content g.W.Watch.step g.W.Watch.left in
    let d = design_term c.args.script.now.design.now in
    let opts = c.args.script.now.opts in
    let extra = c.args.script.now.extra in
    let x = stmt_term c.args.stmt.now in
    let p = c.args.run.now in
    let now = c.requires.before.0 in
    is_whole wa d opts extra c.requires.can_run x p now (next_of wa d opts extra x (in_order x) p now (plain_order x c.requires.plain) c.requires.going c.requires.before.1)

pub execute-requires-clause-stands : goal.execute-requires-clause-stands
execute-requires-clause-stands g c =
    let wa = watcher g.W.Watch.content g.W.Watch.step g.W.Watch.left in
    let d = design_term c.args.script.now.design.now in
    let opts = c.args.script.now.opts in
    let extra = c.args.script.now.extra in
    let x = stmt_term c.args.stmt.now in
    let p = c.args.run.now in
    let now = c.requires.before.0 in
    plain_stands d p.progress.world x c.requires.plain
    (can_execute wa d opts extra c.requires.can_run x p now c.requires.going (next_of wa d opts extra x (in_order x) p now (plain_order x c.requires.plain) c.requires.going c.requires.before.1))

pub returns-clause-goes : goal.returns-clause-goes
returns-clause-goes g c =
    let wa = watcher g.W.Watch.content g.W.Watch.step g.W.Watch.left in
    let d = design_term c.args.script.now.design.now in
    let opts = c.args.script.now.opts in
    let extra = c.args.script.now.extra in
    let x = stmt_term c.args.stmt.now in
    let p = c.args.run.now in
    let does : Executes d opts x (state_of p.progress) [] (record (state_of p.progress) { world = c.execute.new.world }) =
    subst (λ (w : WorldTerm). Executes d opts x (state_of p.progress) [] (record (state_of p.progress) { world = w })) (sym c.in_ok-execute.ensures.effect) (plain_executes d opts x (state_of p.progress) c.requires.plain) in
    λ now. goes_by wa d opts extra x (in_order x) p _ now now (plain_order x c.requires.plain) c.requires.going
    (one_step wa d opts extra x [] p (record p { progress = record p.progress { world = c.execute.new.world } }) now now c.requires.going does
    (λ fs h. subst (λ (es : List Event). HasCounts p.progress.counts es) (sym (append-nil fs)) h)
    (tells_nothing (printing_of opts extra) now) tt refl (none_taken (g.W.Watch.left p.watch)))

pub returns-in_err-execute-clause-breaks : goal.returns-in_err-execute-clause-breaks
returns-in_err-execute-clause-breaks g c =
    let wa = watcher g.W.Watch.content g.W.Watch.step g.W.Watch.left in
    let d = design_term c.args.script.now.design.now in
    let opts = c.args.script.now.opts in
    let extra = c.args.script.now.extra in
    let x = stmt_term c.args.stmt.now in
    let p = c.args.run.now in
    failed_as c.from_residual.result _ _ c.from_residual.ensures.1
    (λ why e. λ now. subst (λ (w : Stop). Breaks wa d opts extra (in_order x) p now w now) (sym e) (breaks_by wa d opts extra x (in_order x) p now now NoMemory (plain_order x c.requires.plain) c.requires.going (halts_here wa d opts extra x p now)))

use Rattle.std.proofs.Common.{inr}
use Rattle.svr_run.specs.Telling.{printing_of}
use Rattle.svr_run.specs.Events.{event_of}
use Rattle.svr_run.proofs.Written.{failed_with, failed_as, both_told, out_cut, journal_cut, fault_is_cause, same_cause, cause_of_out}
use Rattle.svr_run.proofs.tell.tell.Goals as goal

pub returns-in_err-print-clause-front : goal.returns-in_err-print-clause-front
returns-in_err-print-clause-front g c =
    failed_with c.from_residual.result _
    (λ class. out_cut (printing_of c.args.opts c.args.extra) (event_of class c.args.told.now) _ _ _ _ _ _ (c.in_err-print.ensures.front class) c.in_err-print.ensures.later)

pub returns-in_err-print-clause-cause : goal.returns-in_err-print-clause-cause
returns-in_err-print-clause-cause g c =
    failed_as c.from_residual.result _ _ c.from_residual.ensures.1 (λ why e. same_cause why _ _ _ e (cause_of_out _ _ _ _ _ _ _ c.in_err-print.ensures.cause))

pub returns-in_err-note-clause-front : goal.returns-in_err-note-clause-front
returns-in_err-note-clause-front g c =
    failed_with c.from_residual-in_err-note.result _
    (λ class. journal_cut (printing_of c.args.opts c.args.extra) (event_of class c.args.told.now) _ _ _ _ _ _ _ _ (c.in_ok-print.ensures.whole class) c.in_ok-print.ensures.kept (c.in_err-note.ensures.front class) c.in_err-note.ensures.cause.later)

pub returns-in_err-note-clause-cause : goal.returns-in_err-note-clause-cause
returns-in_err-note-clause-cause g c =
    failed_as c.from_residual-in_err-note.result _ _ c.from_residual-in_err-note.ensures.1 (λ why e. fault_is_cause why _ _ (inr c.in_err-note.ensures.cause.failed) e)

pub returns-clause-whole : goal.returns-clause-whole
returns-clause-whole g c =
    λ class. both_told (printing_of c.args.opts c.args.extra) (event_of class c.args.told.now) _ _ _ _ _ _ _ _ (c.in_ok-print.ensures.whole class) c.in_ok-print.ensures.kept (c.in_ok-note.ensures.whole class) c.in_ok-note.ensures.cause.kept

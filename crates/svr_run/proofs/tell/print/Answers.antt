use Rattle.svr_derived.proofs.Fronts.{front_all}
use Rattle.svr_run.proofs.Written.{failed_with, failed_as, in_any_case, cause_at, no_less}
use Rattle.svr_run.proofs.Pieces.{put_whole, put_kept, put_front, fault_front, fault_later, fault_rose}
use Rattle.svr_run.specs.declared.stop.Stop.TheVariants.{NoMemory, WriteFault}
use Rattle.svr_run.proofs.tell.print.Goals as goal

pub returns-in_err-finish-clause-front : goal.returns-in_err-finish-clause-front
returns-in_err-finish-clause-front g c =
    failed_with c.from_residual.result _
    (λ class. fault_front c.new-text.ensures (in_any_case c.put_event-put.result _ _ _ c.put_event-put.ensures.whole c.put_event-put.ensures.front (λ h. front_all (h class)) (λ h. h class)) c.in_err-finish.ensures)

pub returns-in_err-finish-clause-later : goal.returns-in_err-finish-clause-later
returns-in_err-finish-clause-later g c =
    failed_with c.from_residual.result _
    (fault_later c.new-text.ensures (in_any_case c.put_event-put.result _ _ _ c.put_event-put.ensures.whole c.put_event-put.ensures.front (λ h. front_all (h 0)) (λ h. h 0)) c.in_err-finish.ensures)

pub returns-in_err-finish-clause-cause : goal.returns-in_err-finish-clause-cause
returns-in_err-finish-clause-cause g c =
    failed_as c.from_residual.result _ _ c.from_residual.ensures.1
    (λ why e. cause_at why WriteFault _ _ e
    (fault_rose c.new-text.ensures (in_any_case c.put_event-put.result _ _ _ c.put_event-put.ensures.whole c.put_event-put.ensures.front (λ h. front_all (h 0)) (λ h. h 0)) c.in_err-finish.ensures))

pub returns-in_err-put-clause-front : goal.returns-in_err-put-clause-front
returns-in_err-put-clause-front g c =
    failed_with c.from_residual-in_err-put.result _ (λ class. put_front c.new-text.ensures (c.in_err-put.ensures.front class) c.in_ok-finish.ensures)

pub returns-in_err-put-clause-later : goal.returns-in_err-put-clause-later
returns-in_err-put-clause-later g c =
    failed_with c.from_residual-in_err-put.result _ (no_less _ _ (put_kept c.new-text.ensures (c.in_err-put.ensures.front 0) c.in_ok-finish.ensures))

pub returns-in_err-put-clause-cause : goal.returns-in_err-put-clause-cause
returns-in_err-put-clause-cause g c =
    failed_as c.from_residual-in_err-put.result _ _ c.from_residual-in_err-put.ensures.1 (λ why e. cause_at why NoMemory _ _ e tt)

pub returns-clause-whole : goal.returns-clause-whole
returns-clause-whole g c = λ class. put_whole c.new-text.ensures (c.in_ok-put.ensures.whole class) c.in_ok-finish.ensures

pub returns-clause-kept : goal.returns-clause-kept
returns-clause-kept g c = put_kept c.new-text.ensures (front_all (c.in_ok-put.ensures.whole 0)) c.in_ok-finish.ensures

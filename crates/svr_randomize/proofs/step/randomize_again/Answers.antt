use Rattle.std.proofs.Common.{sym, subst}
use Rattle.svr_world.specs.World.{WorldTerm, object_of}
use Rattle.svr_world.specs.Fits.{FitsClass}
use Rattle.svr_frame.specs.Frame.{frame_term}
use Rattle.svr_call.specs.Call.{CallStep}
use Rattle.svr_budget_laws.proofs.Given.{step_over_many}
use Rattle.svr_randomize.proofs.Changes.{can_be_written, changed_fits}
use Rattle.svr_randomize.proofs.step.randomize_again.Goals as goal

pub write-requires-clause-plain : goal.write-requires-clause-plain
write-requires-clause-plain c = can_be_written (frame_term c.args.frame.now).class c.in_ok-found.found.change c.in_ok-found.ensures.fits

pub returns-clause-step : goal.returns-clause-step
returns-clause-step c =
    let w = c.args.world.now in
    subst (λ (w2 : WorldTerm). CallStep c.args.world.now c.args.object (frame_term c.args.frame.now) c.args.number c.args.opts c.in_ok-found.found.outcome w2) (sym c.write.ensures)
    (c.in_ok-found.ensures.answer.steps w c.args.object)

pub returns-clause-bits : goal.returns-clause-bits
returns-clause-bits c =
    let w = c.args.world.now in
    step_over_many w c.args.object (frame_term c.args.frame.now) c.args.number c.args.opts c.in_ok-found.found.outcome _ (c.in_ok-found.ensures.answer.steps w c.args.object)

pub returns-clause-few : goal.returns-clause-few
returns-clause-few c = c.in_ok-found.ensures.answer.few

pub returns-clause-shared : goal.returns-clause-shared
returns-clause-shared c = c.in_ok-found.ensures.answer.shared

pub returns-clause-fits : goal.returns-clause-fits
returns-clause-fits c = λ fits.
    subst (λ (w2 : WorldTerm). FitsClass (frame_term c.args.frame.now).class (object_of w2 c.args.object)) (sym c.write.ensures)
    (changed_fits (frame_term c.args.frame.now).class c.args.world.now c.args.object c.in_ok-found.found.change c.requires.made c.in_ok-found.ensures.fits fits)

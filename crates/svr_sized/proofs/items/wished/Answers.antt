use Rattle.std.proofs.Common.{ℕ, List, sym, ap, ◌∙◌, subst}
use Rattle.svr_frame.specs.declared.part.Part.TheVariants.{Sizes}
use Rattle.svr_frame.specs.Frame.{frame_term}
use Rattle.svr_frame.specs.Phases.{hard_of, live_of}
use Rattle.svr_frame.specs.Sound.{SizesFit}
use Rattle.svr_phase.specs.Spent.{closed_at}
use Rattle.svr_phase.proofs.Preferred.{state_sizes_fit}
use Rattle.svr_sized.proofs.items.wished.Goals as goal

pub expand-requires-clause-fit : goal.expand-requires-clause-fit
expand-requires-clause-fit c = subst (SizesFit (frame_term c.args.frame.now)) (sym c.as_slice.ensures) (state_sizes_fit (frame_term c.args.frame.now) c.requires)

pub capped-requires-clause-hard : goal.capped-requires-clause-hard
capped-requires-clause-hard c =
    let f = frame_term c.args.frame.now in
    c.in_ok-asked.ensures.hard ∙ ap (λ (ns : List ℕ). closed_at f ns (hard_of f Sizes ns)) c.as_slice.ensures

pub returns-clause-soft : goal.returns-clause-soft
returns-clause-soft c =
    let f = frame_term c.args.frame.now in
    c.in_ok-asked.ensures.soft ∙ ap (λ (ns : List ℕ). closed_at f ns (live_of f Sizes ns)) c.as_slice.ensures

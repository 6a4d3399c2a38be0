use Rattle.std.proofs.Common.{◌≡◌, ℕ, List, sym, subst}
use Rattle.svr_eval.specs.Reading.{reading_of}
use Rattle.svr_frame.specs.declared.part.Part.TheVariants.{Randc}
use Rattle.svr_frame.specs.Frame.{FrameTerm, frame_term, state_at}
use Rattle.svr_frame.specs.Phases.{hard_of}
use Rattle.svr_frame.specs.Sound.{IsSound, SizesFit}
use Rattle.svr_encoded.specs.Encodes.{Encodes}
use Rattle.svr_typed.specs.ExprTerm.{ExprTerm}
use Rattle.svr_phase.specs.Spent.{EncodesItems}
use Rattle.svr_phase.proofs.Preferred.{state_sizes_fit}
use Rattle.svr_clauses.proofs.Encodable.{hard_encodable, all_typed, all_inside, all_readable, all_fixed}
use Rattle.svr_cyclic.proofs.solving.encoded.Goals as goal

fits : (f : FrameTerm) (ns : List ℕ) → IsSound f → ns ≡ f.state.sizes → SizesFit f ns
fits f ns sound is = subst (SizesFit f) (sym is) (state_sizes_fit f sound)

pub expand-requires-clause-fit : goal.expand-requires-clause-fit
expand-requires-clause-fit c = fits (frame_term c.args.frame.now) c.as_slice-sizes.result.now c.requires c.as_slice-sizes.ensures

pub clauses_of-requires-clause-fit : goal.clauses_of-requires-clause-fit
clauses_of-requires-clause-fit c = fits (frame_term c.args.frame.now) c.as_slice-sizes.result.now c.requires c.as_slice-sizes.ensures

pub clauses_of-requires-clause-typed : goal.clauses_of-requires-clause-typed
clauses_of-requires-clause-typed c =
    let f = frame_term c.args.frame.now in
    let ns = c.as_slice-sizes.result.now in
    all_typed f Randc (reading_of f.state) (state_at f ns) c.in_ok-expansion.expansion.hard (hard_of f Randc ns) c.in_ok-expansion.ensures.hard (hard_encodable f Randc ns c.requires (fits f ns c.requires c.as_slice-sizes.ensures))

pub clauses_of-requires-clause-inside : goal.clauses_of-requires-clause-inside
clauses_of-requires-clause-inside c =
    let f = frame_term c.args.frame.now in
    let ns = c.as_slice-sizes.result.now in
    all_inside f Randc (reading_of f.state) (state_at f ns) c.in_ok-expansion.expansion.hard (hard_of f Randc ns) c.in_ok-expansion.ensures.hard (hard_encodable f Randc ns c.requires (fits f ns c.requires c.as_slice-sizes.ensures))

pub clauses_of-requires-clause-readable : goal.clauses_of-requires-clause-readable
clauses_of-requires-clause-readable c =
    let f = frame_term c.args.frame.now in
    let ns = c.as_slice-sizes.result.now in
    all_readable f Randc (reading_of f.state) (state_at f ns) c.in_ok-expansion.expansion.hard (hard_of f Randc ns) c.in_ok-expansion.ensures.hard (hard_encodable f Randc ns c.requires (fits f ns c.requires c.as_slice-sizes.ensures))

pub clauses_of-requires-clause-fixed : goal.clauses_of-requires-clause-fixed
clauses_of-requires-clause-fixed c =
    let f = frame_term c.args.frame.now in
    let ns = c.as_slice-sizes.result.now in
    all_fixed f Randc (reading_of f.state) (state_at f ns) c.in_ok-expansion.expansion.hard (hard_of f Randc ns) c.in_ok-expansion.ensures.hard (hard_encodable f Randc ns c.requires (fits f ns c.requires c.as_slice-sizes.ensures))

pub returns : goal.returns
returns c =
    let f = frame_term c.args.frame.now in
    let ns = c.as_slice-sizes.result.now in
    subst (λ (ms : List ℕ). EncodesItems (frame_term c.args.frame.now) Randc ms 1 (hard_of (frame_term c.args.frame.now) Randc ms) c.in_ok-encoding.encoding) c.as_slice-sizes.ensures
    (subst (λ (es : List ExprTerm). Encodes f Randc ns 1 es c.in_ok-encoding.encoding) c.in_ok-expansion.ensures.hard c.in_ok-encoding.ensures)

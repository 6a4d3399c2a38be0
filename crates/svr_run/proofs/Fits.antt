-- The sizes and the cyclic values of a 0 of the hard items fit the frame.
use Rattle.std.proofs.Common.{◌≤◌, ℕ, sym, subst}
use Rattle.svr_world.specs.World.{WorldTerm}
use Rattle.svr_frame.specs.declared.part.Part.TheVariants.{Randc, Sizes, All as Whole}
use Rattle.svr_frame.specs.Frame.{FrameTerm}
use Rattle.svr_frame.specs.Sound.{IsSound}
use Rattle.svr_phase.specs.declared.options.Options.{Options}
use Rattle.svr_phase.specs.Chosen.{AreCyclicValues}
use Rattle.svr_phase.proofs.Allowed.{has_sizes_fit}
use Rattle.svr_phase.proofs.Chosen.{passed_values}
use Rattle.svr_call.specs.declared.outcome.Outcome.{Outcome}
use Rattle.svr_call.specs.declared.outcome.Outcome.TheVariants.{One, Zero, GaveUp, TooHeavy, SizeCap}
use Rattle.svr_call.specs.Call.{CallStep, call_of}
use Rattle.svr_call.proofs.Changes.{passed}
use Rattle.svr_run.specs.Fitting.{ZeroFits}

pub zero_fits : (w : WorldTerm) (o : ℕ) (f : FrameTerm) (number : ℕ) (opts : Options) (outcome : Outcome) (w2 : WorldTerm) → IsSound f → opts.size_cap ≤ 2048 → CallStep w o f number opts outcome w2 → ZeroFits f outcome
zero_fits w o f number opts (One kept dropped cycles encodings) w2 sound le step = tt
zero_fits w o f number opts (Zero Randc chosen sizes proofs encodings) w2 sound le step = tt
zero_fits w o f number opts (Zero Sizes chosen sizes proofs encodings) w2 sound le step = tt
zero_fits w o f number opts (Zero Whole chosen sizes proofs encodings) w2 sound le step =
    let c = call_of w o f number opts in
    let zero = step.0 in (
      has_sizes_fit c zero.choices sizes sound le zero.reached.sized,
      subst (AreCyclicValues f) (sym zero.choice) (passed_values c zero.choices (passed c zero.choices sizes zero.reached.sized)),
    )
zero_fits w o f number opts (GaveUp q e log first) w2 sound le step = tt
zero_fits w o f number opts (TooHeavy weight) w2 sound le step = tt
zero_fits w o f number opts (SizeCap sizes proofs encodings) w2 sound le step = tt

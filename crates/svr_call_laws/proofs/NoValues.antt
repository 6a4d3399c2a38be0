-- An answer 0 in the phase of cyclic values: no assignment of that phase meets its items.
use Rattle.std.proofs.Common.{◌≡◌, ℕ, true, List, subst}
use Rattle.svr_eval.specs.Reading.{Reading}
use Rattle.svr_world.specs.World.{WorldTerm}
use Rattle.svr_frame.specs.declared.part.Part.TheVariants.{Randc}
use Rattle.svr_frame.specs.Occurrences.{all_true}
use Rattle.svr_frame.specs.Phases.{hard_of}
use Rattle.svr_frame.specs.Satisfaction.{IsAssignment}
use Rattle.svr_frame.specs.Sound.{IsSound}
use Rattle.svr_encoded.specs.declared.encoded.Encoded.{Encoded}
use Rattle.svr_phase.specs.declared.proof.Proof.{Proof}
use Rattle.svr_phase.specs.Ends.{Call, cycles_of}
use Rattle.svr_call.specs.declared.outcome.Outcome.TheVariants.{Zero}
use Rattle.svr_call.specs.Call.{Steps}
use Rattle.svr_call_laws.proofs.NoChoice.{next_is_cyclic, no_choice}

-- an answer 0 in the first phase: no assignment of it that extends its cyclic values meets its hard items
pub no_values_meet : (c : Call) (sound : IsSound c.frame) (w : WorldTerm) (o : ℕ) (chosen : List (ℕ × ℕ)) (sizes : List ℕ) (proofs : List Proof) (encodings : List Encoded) (w2 : WorldTerm)
    → Steps w o c (Zero Randc chosen sizes proofs encodings) w2
    → (a : Reading) → IsAssignment c.frame Randc c.frame.state.sizes chosen a → all_true a (hard_of c.frame Randc c.frame.state.sizes) ≡ true → ⊥
no_values_meet c sound w o chosen sizes proofs encodings w2 step a is meets =
    let zero = step.0.1 in
    no_choice c.frame sound zero.prop (next_is_cyclic c.frame zero.reached.settled zero.reached.others zero.prop zero.reached.order) (cycles_of c) zero.before zero.none
    (a, subst (λ (xs : List (ℕ × ℕ)). IsAssignment c.frame Randc c.frame.state.sizes xs a) zero.choice is, meets)

-- How the questions of the phase of sizes end, and how the phase does
use Rattle.std.specs.Prelude.{◌≡◌, ℕ, Bool, true, false, List, [], ◌∷◌, ◌++◌}
use Rattle.svr_query.specs.Logged.{valuation_of}
use Rattle.svr_soft.specs.declared.priority.PassEnd.{PassEnd}
use Rattle.svr_soft.specs.declared.priority.PassEnd.TheVariants as passed
use Rattle.svr_chain.specs.declared.clause.Lit.{Lit}
use Rattle.svr_eval.specs.Reading.{Reading}
use Rattle.svr_frame.specs.declared.part.Part.TheVariants.{Sizes}
use Rattle.svr_frame.specs.Frame.{FrameTerm, state_at}
use Rattle.svr_frame.specs.Occurrences.{Occurrence}
use Rattle.svr_frame.specs.Satisfaction.{IsAssignment, Sat, Keeps, kept_of}
use Rattle.svr_vector.specs.Places.{rows}
use Rattle.svr_encoded.specs.declared.encoded.Encoded.{Encoded}
use Rattle.svr_encoded.specs.Slots.{reading_at}
use Rattle.svr_phase.specs.declared.proof.Proof.{Proof}
use Rattle.svr_phase.specs.declared.proof.ProofReason.TheVariants as why
use Rattle.svr_phase.specs.Spent.{IsSpent}
use Rattle.svr_phase.specs.Proof.{no_lits, Stands, StandsForNoSizes, StandsForCap}
use Rattle.svr_phase.specs.Sizes.{Asked, sizes_read, meets_all, AreAllowed, HasNoSizes, IsBeyondCap, fits_preferred, cap_bits}
use Rattle.svr_phase.specs.Ends.{SizesAreSpent}
use Rattle.svr_sized.specs.declared.scope.Scope.{Scope}
use Rattle.svr_sized.specs.declared.found.Found.{Found}
use Rattle.svr_sized.specs.declared.found.Found.TheVariants as found
use Rattle.svr_sized.specs.declared.choose.SizesEnd.{SizesEnd}
use Rattle.svr_sized.specs.declared.choose.SizesEnd.TheVariants as end
use Rattle.svr_sized.specs.Questions.{hard_over, soft_over, bits_over}

-- ---- one question, within a cap and with these cyclic values

-- an assignment with the cyclic values meets the items
abbrev pub SomeMeets : FrameTerm → List (ℕ × ℕ) → List Occurrence → Type 0
SomeMeets f chosen os = Sat f Sizes f.state.sizes chosen os

-- An assignment meets the hard items of a question and just the soft ones that the pass keeps, and has these sizes.
pub record IsMet (f : FrameTerm) (cap : ℕ) (chosen : List (ℕ × ℕ)) (scope : Scope) (sizes : List ℕ) : Type 0 where
  pub fates : List Bool
  pub keeps : Keeps (SomeMeets f chosen) (hard_over f cap scope) (soft_over f scope) fates
  pub values : Reading
  pub fits : IsAssignment f Sizes f.state.sizes chosen values
  pub meets : meets_all values (hard_over f cap scope ++ kept_of (soft_over f scope) fates) ≡ true
  pub sized : sizes ≡ sizes_read f values

-- the proof refutes the hard items of a question, which are all that the encoding has
abbrev pub IsProved : FrameTerm → ℕ → List (ℕ × ℕ) → Scope → Encoded → Proof → Type 0
IsProved f cap chosen scope e p = (p.reason ≡ why.Size) × Stands f Sizes f.state.sizes (bits_over cap scope) chosen (hard_over f cap scope) [] no_lits (e ∷ []) p

-- Sizes of some assignment; or none meets the hard items, which the proof shows where no soft one stands beside them; or the log spends the budget.
abbrev pub IsFound : FrameTerm → ℕ → List (ℕ × ℕ) → ℕ → Scope → Found → Type 0
IsFound f cap chosen budget scope (found.Met sizes) = IsMet f cap chosen scope sizes
IsFound f cap chosen budget scope (found.Refuted proof e) = (SomeMeets f chosen (hard_over f cap scope) → ⊥) × (soft_over f scope ≡ [] → IsProved f cap chosen scope e proof)
IsFound f cap chosen budget scope (found.Spent e log first) = IsSpent f budget Sizes f.state.sizes (bits_over cap scope) (hard_over f cap scope ++ soft_over f scope) e log first

-- what the end of a pass over the roots is turned into, where this was assumed: the sizes that the bits of the encoding read as, or the proof
abbrev pub Becomes : FrameTerm → Encoded → List Lit → PassEnd → Found → Type 0
Becomes f e base (passed.Done kept dropped values) r =
    (sizes : List ℕ) × (r ≡ found.Met sizes) × (sizes ≡ sizes_read f (reading_at (state_at f f.state.sizes) e.slots.items (rows e.bits.items) (valuation_of values.items)))
Becomes f e base (passed.BaseRefuted log) r = r ≡ found.Refuted (record { encoding = 0; assume = base; refutation = log; reason = why.Size }) e
Becomes f e base (passed.Spent rank log first) r = r ≡ found.Spent e log first

-- ---- the phase

-- Sizes that the call may choose; or there are none up to 2 ^ 31 - 1, with a proof; or these beyond the cap, with a proof that none are within it; or a question that spent the budget, where the preferred sizes do not fit.
abbrev pub SizesEnds : FrameTerm → Asked → ℕ → SizesEnd → Type 0
SizesEnds f q budget (end.Chosen sizes) = AreAllowed f q sizes
SizesEnds f q budget (end.None proof e) = HasNoSizes f q × StandsForNoSizes f q.chosen (e ∷ []) proof
SizesEnds f q budget (end.BeyondCap sizes proof e) = IsBeyondCap f q sizes × StandsForCap f q.cap (cap_bits q.cap) q.chosen (e ∷ []) proof
SizesEnds f q budget (end.Spent e log first) = (fits_preferred f q ≡ false) × SizesAreSpent f budget q e log first

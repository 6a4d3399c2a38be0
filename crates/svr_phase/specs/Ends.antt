-- How the phases of cyclic values and of sizes go, and how each ends.
use Rattle.svr_limits.specs.declared.limit.TheConstants.{WEIGHT_LIMIT}
use Rattle.std.specs.Prelude.{◌≡◌, ℕ, ◌≤◌, true, false, cond, List, [], ◌∷◌, ◌++◌, length, filter, slice_index_or}
use Rattle.svr_chain.specs.Views.{RefutationView}
use Rattle.svr_frame.specs.declared.part.Part.{Part}
use Rattle.svr_frame.specs.declared.part.Part.TheVariants.{Randc, Sizes}
use Rattle.svr_frame.specs.Frame.{FrameTerm, props_of, is_cyclic, domain_of}
use Rattle.svr_frame.specs.Occurrences.{Occurrence}
use Rattle.svr_frame.specs.Phases.{hard_of, live_of}
use Rattle.svr_frame.specs.Weight.{weight_of}
use Rattle.svr_encoded.specs.declared.encoded.Encoded.{Encoded}
use Rattle.svr_phase.specs.declared.choice.Choice.{Choice}
use Rattle.svr_phase.specs.declared.proof.Proof.{Proof}
use Rattle.svr_phase.specs.declared.proof.Renewed.{Renewed}
use Rattle.svr_phase.specs.declared.proof.ProofReason.TheVariants as why
use Rattle.svr_phase.specs.Spent.{IsSpent}
use Rattle.svr_phase.specs.Proof.{StandsForNoSizes, StandsForCap, ProveValues}
use Rattle.svr_phase.specs.Cyclic.{Cycles, fixed_of, turned, unused, AreChosen, HasNoChoice, IsTrying}
use Rattle.svr_phase.specs.Sizes.{Asked, within_cap, beyond_cap, fits_preferred, CanMeet, AreAllowed, HasNoSizes, IsBeyondCap, chooses_sizes, cap_bits}

-- what a call is given: its frame, the used values of its object, its words in order, the budget of each question and the cap of sizes
pub record Call : Type 0 where
  pub frame : FrameTerm
  pub used : List (List ℕ)
  pub words : ℕ → ℕ
  pub budget : ℕ
  pub cap : ℕ

-- no phase may weigh more
abbrev pub weight_limit : ℕ
weight_limit = WEIGHT_LIMIT

-- the random cyclic properties in flat order
abbrev pub cyclic_props : FrameTerm → List ℕ
cyclic_props f = filter (is_cyclic f) (props_of f)

abbrev pub cycles_of : Call → Cycles
cycles_of c = record { used = c.used; words = c.words }

abbrev pub question_of : Call → List Choice → Asked
question_of c choices = record { cap = c.cap; words = c.words; chosen = fixed_of choices }

-- ---- what is reached

-- the phase is light enough
abbrev pub IsLight : Call → Part → List ℕ → Type 0
IsLight c part sizes = weight_of c.frame part sizes ≤ weight_limit

-- the first cyclic properties have these values, and this one is next
pub record ReachesCyclic (c : Call) (before : List Choice) (prop : ℕ) : Type 0 where
  pub light : IsLight c Randc c.frame.state.sizes
  pub settled : List ℕ
  pub others : List ℕ
  pub order : cyclic_props c.frame ≡ settled ++ prop ∷ others
  pub chosen : AreChosen c.frame (cycles_of c) [] settled before

-- all cyclic properties have these values
pub record PassesCyclic (c : Call) (choices : List Choice) : Type 0 where
  pub light : IsLight c Randc c.frame.state.sizes
  pub chosen : AreChosen c.frame (cycles_of c) [] (cyclic_props c.frame) choices

-- the phase of sizes runs
pub record ReachesSizes (c : Call) (choices : List Choice) : Type 0 where
  pub passed : PassesCyclic c choices
  pub chooses : chooses_sizes c.frame ≡ true
  pub light : IsLight c Sizes c.frame.state.sizes

-- the sizes are these
pub data HasSizes (c : Call) (choices : List Choice) (sizes : List ℕ) : Type 0 where
  kept_sizes : PassesCyclic c choices → chooses_sizes c.frame ≡ false → sizes ≡ c.frame.state.sizes → HasSizes c choices sizes
  chosen_sizes : ReachesSizes c choices → AreAllowed c.frame (question_of c choices) sizes → HasSizes c choices sizes

-- ---- new cycles, and their proofs

-- the values that had to be refused before a new cycle, in the order in which they were tried
abbrev pub refused_values : Call → ℕ → ℕ → List ℕ
refused_values c place p = turned (c.words place) (unused (slice_index_or c.used p []) (domain_of c.frame p))

-- a choice with which a new cycle begins, and the choices before it
pub record Renewal : Type 0 where
  pub before : List Choice
  pub choice : Choice

abbrev pub renewals : List Choice → List Choice → List Renewal
renewals before [] = []
renewals before (x ∷ xs) = cond x.cycle (record { before = before; choice = x } ∷ []) [] ++ renewals (before ++ x ∷ []) xs

-- one entry for each, in flat order, with a proof for each refused value
abbrev pub CyclesAreProved : Call → List Encoded → List Renewal → List Renewed → Type 0
CyclesAreProved c encodings [] [] = Unit {0}
CyclesAreProved c encodings [] (r ∷ rs) = ⊥
CyclesAreProved c encodings (x ∷ xs) [] = ⊥
CyclesAreProved c encodings (x ∷ xs) (r ∷ rs) =
    (r.prop ≡ x.choice.prop)
    × ProveValues c.frame (fixed_of x.before) r.prop (why.Cycle r.prop) (refused_values c (length x.before) r.prop) encodings r.proofs
    × CyclesAreProved c encodings xs rs

-- ---- answers that a phase gives

-- the whole domain of the next cyclic property is refused
pub record IsZeroCyclic (c : Call) (chosen : List (ℕ × ℕ)) (proofs : List Proof) (encodings : List Encoded) : Type 0 where
  pub before : List Choice
  pub prop : ℕ
  pub reached : ReachesCyclic c before prop
  pub none : HasNoChoice c.frame (cycles_of c) before prop
  pub choice : chosen ≡ fixed_of before
  pub proved : ProveValues c.frame chosen prop (why.Randc prop) (turned (c.words (length before)) (domain_of c.frame prop)) encodings proofs

-- there are no sizes
pub record IsZeroSizes (c : Call) (chosen : List (ℕ × ℕ)) (proofs : List Proof) (encodings : List Encoded) : Type 0 where
  pub choices : List Choice
  pub reached : ReachesSizes c choices
  pub none : HasNoSizes c.frame (question_of c choices)
  pub choice : chosen ≡ fixed_of choices
  pub proof : Proof
  pub only : proofs ≡ proof ∷ []
  pub stands : StandsForNoSizes c.frame chosen encodings proof

-- only sizes beyond the cap can be
pub record IsSizeCap (c : Call) (sizes : List ℕ) (proofs : List Proof) (encodings : List Encoded) : Type 0 where
  pub choices : List Choice
  pub reached : ReachesSizes c choices
  pub beyond : IsBeyondCap c.frame (question_of c choices) sizes
  pub proof : Proof
  pub only : proofs ≡ proof ∷ []
  pub stands : StandsForCap c.frame c.cap (cap_bits c.cap) (fixed_of choices) encodings proof

-- ---- giving up

-- the next value of a cyclic property was asked for
pub record GivesUpCyclic (c : Call) (prop : ℕ) (e : Encoded) (log : RefutationView) (first : ℕ) : Type 0 where
  pub before : List Choice
  pub reached : ReachesCyclic c before prop
  pub trying : IsTrying c.frame (cycles_of c) before prop
  pub size_bits : ℕ
  pub spent : IsSpent c.frame c.budget Randc c.frame.state.sizes size_bits (hard_of c.frame Randc c.frame.state.sizes) e log first

-- What is encoded in a question for sizes: the hard items within the cap, with the live soft ones or without; or, only where those within the cap cannot be met, the hard ones beyond it.
pub data SizesAreSpent (f : FrameTerm) (budget : ℕ) (q : Asked) (e : Encoded) (log : RefutationView) (first : ℕ) : Type 0 where
  with_soft : IsSpent f budget Sizes f.state.sizes (cap_bits q.cap) (within_cap f q ++ live_of f Sizes f.state.sizes) e log first → SizesAreSpent f budget q e log first
  hard_alone : IsSpent f budget Sizes f.state.sizes (cap_bits q.cap) (within_cap f q) e log first → SizesAreSpent f budget q e log first
  beyond : (CanMeet f q (within_cap f q) → ⊥) → IsSpent f budget Sizes f.state.sizes 32 (beyond_cap f) e log first → SizesAreSpent f budget q e log first

-- sizes were asked for, since the preferred ones do not fit
pub record GivesUpSizes (c : Call) (e : Encoded) (log : RefutationView) (first : ℕ) : Type 0 where
  pub choices : List Choice
  pub reached : ReachesSizes c choices
  pub not_preferred : fits_preferred c.frame (question_of c choices) ≡ false
  pub spent : SizesAreSpent c.frame c.budget (question_of c choices) e log first

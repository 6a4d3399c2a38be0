-- One call of `randomize` (IEEE 1800-2017, 18.6): what it may answer.
-- The phases go in order: cyclic values, sizes, all values, soft items. Each case says what was reached before it.
use Rattle.std.specs.Prelude.{◌≡◌, ℕ, ◌-◌, ◌<◌, ◌≤◌, Bool, true, false, not, pos, List, [], ◌∷◌, ◌++◌, map, length, take, slice_index, slice_index_or, filter}
use Rattle.std.specs.List.{list_any, range_with_len}
use Rattle.std.specs.List as list
use Rattle.svr_chain.specs.Views.{RefutationView}
use Rattle.svr_eval.specs.Reading.{Reading}
use Rattle.svr_world.specs.declared.change.Change.{Change}
use Rattle.svr_world.specs.declared.change.Replacement.{Replacement}
use Rattle.svr_world.specs.World.{WorldTerm, object_of, with_change}
use Rattle.svr_frame.specs.declared.part.Part.{Part}
use Rattle.svr_frame.specs.declared.part.Part.TheVariants.{Randc, Sizes, All}
use Rattle.svr_frame.specs.declared.slot.Slot.{Slot}
use Rattle.svr_frame.specs.declared.slot.Slot.TheVariants.{Scalar, Element, Size}
use Rattle.svr_frame.specs.Frame.{FrameTerm, state_at, is_random, props_of}
use Rattle.svr_frame.specs.Occurrences.{Occurrence}
use Rattle.svr_frame.specs.Reads.{mentions, mentions_element, mentions_size}
use Rattle.svr_frame.specs.Phases.{shape_at, sought_sizes, hard_of, live_of, asked_of, unknowns_of}
use Rattle.svr_frame.specs.Satisfaction.{value_at, IsAssignment, Sat, Keeps, kept_of, kept_ranks, dropped_ranks}
use Rattle.svr_frame.specs.Weight.{weight_of}
use Rattle.svr_draw.specs.Words.{generator, word_of}
use Rattle.svr_encoded.specs.declared.encoded.Encoded.{Encoded}
use Rattle.svr_phase.specs.declared.choice.Choice.{Choice}
use Rattle.svr_phase.specs.declared.options.Options.{Options}
use Rattle.svr_phase.specs.declared.proof.Proof.{Proof}
use Rattle.svr_phase.specs.declared.proof.Renewed.{Renewed}
use Rattle.svr_phase.specs.Spent.{IsSpent}
use Rattle.svr_phase.specs.Proof.{StandsForHard, StandsForDrop}
use Rattle.svr_phase.specs.Cyclic.{fixed_of, used_after}
use Rattle.svr_phase.specs.Sizes.{preferred_with, meets_all, chooses_sizes}
use Rattle.svr_phase.specs.Ends.{Call, weight_limit, IsLight, PassesCyclic, HasSizes, renewals, CyclesAreProved, IsZeroCyclic, IsZeroSizes, IsSizeCap, GivesUpCyclic, GivesUpSizes}
use Rattle.svr_call.specs.declared.outcome.Dropped.{Dropped}
use Rattle.svr_call.specs.declared.outcome.Query.{Query}
use Rattle.svr_call.specs.declared.outcome.Query.TheVariants as query
use Rattle.svr_call.specs.declared.outcome.Outcome.{Outcome}
use Rattle.svr_call.specs.declared.outcome.Outcome.TheVariants.{One, Zero, GaveUp, TooHeavy, SizeCap}

-- the properties that are random in the call, in flat order
abbrev pub random_props : FrameTerm → List ℕ
random_props f = filter (is_random f) (props_of f)

-- ---- what is reached

-- values are looked for, under these cyclic values and at these sizes
pub record ReachesValues (c : Call) (choices : List Choice) (sizes : List ℕ) : Type 0 where
  pub sized : HasSizes c choices sizes
  pub light : IsLight c All sizes

-- ---- values

abbrev pub hard_items : Call → List ℕ → List Occurrence
hard_items c sizes = hard_of c.frame All sizes

abbrev pub soft_items : Call → List ℕ → List Occurrence
soft_items c sizes = live_of c.frame All sizes

-- an assignment that extends the cyclic values meets the items
abbrev pub CanBe : Call → List Choice → List ℕ → List Occurrence → Type 0
CanBe c choices sizes os = Sat c.frame All sizes (fixed_of choices) os

abbrev pub preferred : Call → List Choice → List ℕ → Reading
preferred c choices sizes = preferred_with c.frame All sizes c.cap c.words (fixed_of choices)

-- the preferred assignment meets the hard and all live soft items
abbrev pub fits_preferred_values : Call → List Choice → List ℕ → Bool
fits_preferred_values c choices sizes = meets_all (preferred c choices sizes) (hard_items c sizes ++ soft_items c sizes)

-- a question is asked for values
pub record AsksValues (c : Call) (choices : List Choice) (sizes : List ℕ) : Type 0 where
  pub reached : ReachesValues c choices sizes
  pub not_preferred : fits_preferred_values c choices sizes ≡ false

-- the numbers of the random properties under an assignment at these sizes
abbrev pub numbers_read : List ℕ → Reading → List ℕ → List Replacement
numbers_read sizes a [] = []
numbers_read sizes a (p ∷ ps) = record { prop = p; numbers = map (λ i. a.element p i) (range_with_len 0 (slice_index sizes p)) } ∷ numbers_read sizes a ps

abbrev pub new_numbers : Call → List ℕ → Reading → List Replacement
new_numbers c sizes a = numbers_read sizes a (random_props c.frame)

-- the item mentions the variable or element
abbrev pub mentions_unknown : Call → List ℕ → Occurrence → Slot → Bool
mentions_unknown c sizes o (Scalar p) = mentions (shape_at c.frame sizes) p o
mentions_unknown c sizes o (Element p i) = mentions_element (shape_at c.frame sizes) (sought_sizes c.frame All) (state_at c.frame sizes) p (pos i) o
mentions_unknown c sizes o (Size p) = mentions_size (shape_at c.frame sizes) p o

-- no hard item, its domain aside, and no live soft item mentions it
abbrev pub is_unmentioned : Call → List ℕ → Slot → Bool
is_unmentioned c sizes s = not (list_any (λ o. mentions_unknown c sizes o s) (asked_of c.frame All sizes ++ soft_items c sizes))

-- each unknown that no item mentions has its preferred value
abbrev pub OthersArePreferred : Call → List ℕ → Reading → Reading → Type 0
OthersArePreferred c sizes wanted a =
    list.All (λ s. is_unmentioned c sizes s ≡ true → value_at a s ≡ value_at wanted s) (unknowns_of c.frame All sizes)

-- An assignment meets the hard items and just the soft ones that the pass keeps. What no item mentions has its preferred value.
pub record IsSolution (c : Call) (choices : List Choice) (sizes : List ℕ) (fates : List Bool) (a : Reading) : Type 0 where
  pub keeps : Keeps (CanBe c choices sizes) (hard_items c sizes) (soft_items c sizes) fates
  pub fits : IsAssignment c.frame All sizes (fixed_of choices) a
  pub meets : meets_all a (hard_items c sizes ++ kept_of (soft_items c sizes) fates) ≡ true
  pub others : OthersArePreferred c sizes (preferred c choices sizes) a

abbrev pub all_kept : List Occurrence → List Bool
all_kept os = map (λ o. true) os

-- the preferred assignment where it meets all, else any solution
pub data Gives (c : Call) (choices : List Choice) (sizes : List ℕ) (fates : List Bool) (numbers : List Replacement) : Type 0 where
  as_preferred : fits_preferred_values c choices sizes ≡ true → fates ≡ all_kept (soft_items c sizes)
      → numbers ≡ new_numbers c sizes (preferred c choices sizes) → Gives c choices sizes fates numbers
  as_solved : fits_preferred_values c choices sizes ≡ false → (a : Reading) → IsSolution c choices sizes fates a
      → numbers ≡ new_numbers c sizes a → Gives c choices sizes fates numbers

-- ---- proofs of an answer 1

abbrev pub DropsAreProved : Call → List Choice → List ℕ → List Bool → List Encoded → List Dropped → Type 0
DropsAreProved c choices sizes fates encodings [] = Unit {0}
DropsAreProved c choices sizes fates encodings (d ∷ ds) =
    StandsForDrop c.frame sizes (fixed_of choices) fates d.rank encodings d.proof × DropsAreProved c choices sizes fates encodings ds

-- ---- the used values

abbrev pub new_used : Call → List Choice → List Replacement
new_used c [] = []
new_used c (x ∷ xs) = record { prop = x.prop; numbers = used_after (slice_index_or c.used x.prop []) x } ∷ new_used c xs

-- ---- answers

pub record IsOne (c : Call) (kept : List ℕ) (dropped : List Dropped) (cycles : List Renewed) (encodings : List Encoded) (change : Change) : Type 0 where
  pub choices : List Choice
  pub sizes : List ℕ
  pub reached : ReachesValues c choices sizes
  pub fates : List Bool
  pub gives : Gives c choices sizes fates change.values
  pub uses : change.used ≡ new_used c choices
  pub kept_ranks : kept ≡ kept_ranks 1 fates
  pub dropped_ranks : map (λ (d : Dropped). d.rank) dropped ≡ dropped_ranks 1 fates
  pub drops_proved : DropsAreProved c choices sizes fates encodings dropped
  pub cycles_proved : CyclesAreProved c encodings (renewals [] choices) cycles

-- no assignment that extends the cyclic values and sizes meets the hard items
pub record IsZeroHard (c : Call) (chosen : List (ℕ × ℕ)) (sizes : List ℕ) (proofs : List Proof) (encodings : List Encoded) : Type 0 where
  pub choices : List Choice
  pub reached : ReachesValues c choices sizes
  pub none : CanBe c choices sizes (hard_items c sizes) → ⊥
  pub choice : chosen ≡ fixed_of choices
  pub proof : Proof
  pub only : proofs ≡ proof ∷ []
  pub stands : StandsForHard c.frame sizes chosen encodings proof

abbrev pub IsZero : Call → Part → List (ℕ × ℕ) → List ℕ → List Proof → List Encoded → Type 0
IsZero c Randc chosen sizes proofs encodings = (sizes ≡ []) × IsZeroCyclic c chosen proofs encodings
IsZero c Sizes chosen sizes proofs encodings = (sizes ≡ []) × IsZeroSizes c chosen proofs encodings
IsZero c All chosen sizes proofs encodings = IsZeroHard c chosen sizes proofs encodings

-- a phase that was reached weighs too much
pub data IsTooHeavy (c : Call) (weight : ℕ) : Type 0 where
  heavy_cyclic : weight ≡ weight_of c.frame Randc c.frame.state.sizes → weight_limit < weight → IsTooHeavy c weight
  heavy_sizes : (choices : List Choice) → PassesCyclic c choices → chooses_sizes c.frame ≡ true
      → weight ≡ weight_of c.frame Sizes c.frame.state.sizes → weight_limit < weight → IsTooHeavy c weight
  heavy_values : (choices : List Choice) (sizes : List ℕ) → HasSizes c choices sizes
      → weight ≡ weight_of c.frame All sizes → weight_limit < weight → IsTooHeavy c weight

-- ---- giving up

-- values that meet the hard items were asked for
pub record GivesUpHard (c : Call) (e : Encoded) (log : RefutationView) (first : ℕ) : Type 0 where
  pub choices : List Choice
  pub sizes : List ℕ
  pub asks : AsksValues c choices sizes
  pub size_bits : ℕ
  pub spent : IsSpent c.frame c.budget All sizes size_bits (hard_items c sizes ++ soft_items c sizes) e log first

-- the hard items can be met, the fates of the soft ones above this rank are known, and this one was asked for
pub record GivesUpSoft (c : Call) (rank : ℕ) (e : Encoded) (log : RefutationView) (first : ℕ) : Type 0 where
  pub choices : List Choice
  pub sizes : List ℕ
  pub asks : AsksValues c choices sizes
  pub hard : CanBe c choices sizes (hard_items c sizes)
  pub from : 1 ≤ rank
  pub to : rank ≤ length (soft_items c sizes)
  pub fates : List Bool
  pub above : Keeps (CanBe c choices sizes) (hard_items c sizes) (take (rank - 1) (soft_items c sizes)) fates
  pub size_bits : ℕ
  pub spent : IsSpent c.frame c.budget All sizes size_bits (hard_items c sizes ++ soft_items c sizes) e log first

abbrev pub GivesUp : Call → Query → Encoded → RefutationView → ℕ → Type 0
GivesUp c (query.Randc prop) e log first = GivesUpCyclic c prop e log first
GivesUp c query.Size e log first = GivesUpSizes c e log first
GivesUp c query.Hard e log first = GivesUpHard c e log first
GivesUp c (query.Soft rank) e log first = GivesUpSoft c rank e log first

-- ---- the step of a call from world to world

-- Only an answer 1 changes the world: the numbers and used values of the object.
abbrev pub Steps : WorldTerm → ℕ → Call → Outcome → WorldTerm → Type 0
Steps w o c (One kept dropped cycles encodings) w2 = (change : Change) × IsOne c kept dropped cycles encodings change × (w2 ≡ with_change w o change)
Steps w o c (Zero phase chosen sizes proofs encodings) w2 = IsZero c phase chosen sizes proofs encodings × (w2 ≡ w)
Steps w o c (GaveUp q e log first) w2 = GivesUp c q e log first × (w2 ≡ w)
Steps w o c (TooHeavy weight) w2 = IsTooHeavy c weight × (w2 ≡ w)
Steps w o c (SizeCap sizes proofs encodings) w2 = IsSizeCap c sizes proofs encodings × (w2 ≡ w)

-- the call of this number on an object, in its frame and with these options
abbrev pub call_of : WorldTerm → ℕ → FrameTerm → ℕ → Options → Call
call_of w o f number opts = record { frame = f; used = (object_of w o).used; words = word_of (generator opts.seed number); budget = opts.budget; cap = opts.size_cap }

-- One call: from the old world, the object, its frame, the call's number and the options to the answer and the new world.
abbrev pub CallStep : WorldTerm → ℕ → FrameTerm → ℕ → Options → Outcome → WorldTerm → Type 0
CallStep w o f number opts outcome w2 = Steps w o (call_of w o f number opts) outcome w2

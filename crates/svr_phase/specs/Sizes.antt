-- The sizes that a call may choose. (In this project sizes are settled in a phase of their own, behind the cyclic values.)
use Rattle.std.specs.Prelude.{◌≡◌, ℕ, zero, suc, ◌+◌, ◌^◌, Bool, true, false, cond, nat_lt, ◌⊎◌, List, [], ◌∷◌, ◌++◌, map, length}
use Rattle.std.specs.List.{list_any, list_all}
use Rattle.svr_eval.specs.Reading.{Reading}
use Rattle.svr_frame.specs.declared.part.Part.{Part}
use Rattle.svr_frame.specs.declared.part.Part.TheVariants.{Sizes}
use Rattle.svr_frame.specs.Frame.{FrameTerm, props_of}
use Rattle.svr_frame.specs.Occurrences.{Occurrence, is_true}
use Rattle.svr_frame.specs.Phases.{hard_of, capped_hard_of, live_of}
use Rattle.svr_frame.specs.Satisfaction.{IsAssignment, Sat, Keeps, kept_of}
use Rattle.svr_frame.specs.declared.slot.Slot.TheVariants.{Scalar}
use Rattle.svr_draw.specs.Preferred.{preferred_of, reading_with}

-- ---- preferred values with the chosen ones in their places

-- the words behind those of the cyclic properties
abbrev pub words_after : ℕ → (ℕ → ℕ) → ℕ → ℕ
words_after n words k = words (n + k)

-- the preferred assignment, in which chosen cyclic values are their own preferred ones
abbrev pub preferred_with : FrameTerm → Part → List ℕ → ℕ → (ℕ → ℕ) → List (ℕ × ℕ) → Reading
preferred_with f part sizes cap words chosen =
    reading_with (preferred_of f part sizes cap (words_after (length chosen) words)) (map (λ c. (Scalar c.0, c.1)) chosen)

-- ---- sizes

-- the size of each property under an assignment
abbrev pub sizes_read : FrameTerm → Reading → List ℕ
sizes_read f a = map a.size (props_of f)

abbrev pub meets_all : Reading → List Occurrence → Bool
meets_all a os = list_all (is_true a) os

-- what a call gives to this phase: the cap, the words of the call and the chosen cyclic values
pub record Asked : Type 0 where
  pub cap : ℕ
  pub words : ℕ → ℕ
  pub chosen : List (ℕ × ℕ)

-- the hard size items within the cap
abbrev pub within_cap : FrameTerm → Asked → List Occurrence
within_cap f q = capped_hard_of f q.cap f.state.sizes

abbrev pub beyond_cap : FrameTerm → List Occurrence
beyond_cap f = hard_of f Sizes f.state.sizes

abbrev pub preferred_sizes : FrameTerm → Asked → Reading
preferred_sizes f q = preferred_with f Sizes f.state.sizes q.cap q.words q.chosen

-- the preferred assignment meets the hard size items within the cap, and all live soft ones
abbrev pub fits_preferred : FrameTerm → Asked → Bool
fits_preferred f q = meets_all (preferred_sizes f q) (within_cap f q ++ live_of f Sizes f.state.sizes)

abbrev pub CanMeet : FrameTerm → Asked → List Occurrence → Type 0
CanMeet f q os = Sat f Sizes f.state.sizes q.chosen os

-- An assignment meets the hard size items within the cap and just the soft ones that the pass keeps, and has these sizes.
pub record IsSolved (f : FrameTerm) (q : Asked) (sizes : List ℕ) : Type 0 where
  pub fates : List Bool
  pub keeps : Keeps (CanMeet f q) (within_cap f q) (live_of f Sizes f.state.sizes) fates
  pub values : Reading
  pub fits : IsAssignment f Sizes f.state.sizes q.chosen values
  pub meets : meets_all values (within_cap f q ++ kept_of (live_of f Sizes f.state.sizes) fates) ≡ true
  pub sized : sizes ≡ sizes_read f values

-- the preferred sizes where they fit, else those of any solution
abbrev pub AreAllowed : FrameTerm → Asked → List ℕ → Type 0
AreAllowed f q sizes =
    ((fits_preferred f q ≡ true) × (sizes ≡ sizes_read f (preferred_sizes f q)))
    ⊎ ((fits_preferred f q ≡ false) × IsSolved f q sizes)

-- no sizes up to 2 ^ 31 - 1
abbrev pub HasNoSizes : FrameTerm → Asked → Type 0
HasNoSizes f q = CanMeet f q (beyond_cap f) → ⊥

-- sizes beyond the cap alone: these are some
pub record IsBeyondCap (f : FrameTerm) (q : Asked) (sizes : List ℕ) : Type 0 where
  pub none : CanMeet f q (within_cap f q) → ⊥
  pub values : Reading
  pub fits : IsAssignment f Sizes f.state.sizes q.chosen values
  pub meets : meets_all values (beyond_cap f) ≡ true
  pub sized : sizes ≡ sizes_read f values

-- some size is chosen by the call
abbrev pub chooses_sizes : FrameTerm → Bool
chooses_sizes f = list_any (λ b. b) f.free_size

-- the least k with 2 ^ k greater than the cap
abbrev pub bits_from : ℕ → ℕ → ℕ → ℕ
bits_from zero k cap = k
bits_from (suc n) k cap = cond (nat_lt cap (2 ^ k)) k (bits_from n (suc k) cap)

abbrev pub cap_bits : ℕ → ℕ
cap_bits cap = bits_from 32 0 cap

-- What answers a phase, and the pass over soft items (IEEE 1800-2017, 18.5.14).
use Rattle.std.specs.Prelude.{◌≡◌, ◌==◌, ℕ, ◌+◌, ◌<◌, ◌^◌, zero, suc, Bool, true, false, ◌&&◌, ◌||◌, List, [], ◌∷◌, ◌++◌, ⊤}
use Rattle.std.specs.List.{list_any}
use Rattle.svr_eval.specs.Reading.{Reading}
use Rattle.svr_frame.specs.declared.part.Part.{Part}
use Rattle.svr_frame.specs.declared.slot.Slot.{Slot}
use Rattle.svr_frame.specs.declared.slot.Slot.TheVariants.{Scalar, Element, Size}
use Rattle.svr_frame.specs.Frame.{FrameTerm, width_of, state_at}
use Rattle.svr_frame.specs.Occurrences.{Occurrence, all_true}
use Rattle.svr_frame.specs.Phases.{unknowns_of}

-- ---- slots in a reading

-- whether a slot is the number at a place of a property, of which a scalar has the place 0
abbrev pub is_at : ℕ → ℕ → Slot → Bool
is_at p i (Scalar q) = (q == p) && (i == 0)
is_at p i (Element q j) = (q == p) && (j == i)
is_at p i (Size q) = false

abbrev pub is_size_of : ℕ → Slot → Bool
is_size_of p (Scalar q) = false
is_size_of p (Element q j) = false
is_size_of p (Size q) = q == p

abbrev pub value_at : Reading → Slot → ℕ
value_at a (Scalar p) = a.element p 0
value_at a (Element p i) = a.element p i
value_at a (Size p) = a.size p

module _ (f : FrameTerm) where
  -- a number of its width; a size is an int that is not negative
  abbrev pub Fits : Reading → Slot → Type 0
  Fits a (Scalar p) = a.element p 0 < 2 ^ width_of f p
  Fits a (Element p i) = a.element p i < 2 ^ width_of f p
  Fits a (Size p) = a.size p < 2 ^ 31

  abbrev pub AllFit : Reading → List Slot → Type 0
  AllFit a [] = ⊤
  AllFit a (s ∷ ss) = Fits a s × AllFit a ss

  -- cyclic properties and their chosen numbers
  abbrev pub AreFixed : Reading → List (ℕ × ℕ) → Type 0
  AreFixed a [] = ⊤
  AreFixed a (x ∷ xs) = (a.element x.0 0 ≡ x.1) × AreFixed a xs

  -- An assignment of a phase is the state but for the unknowns. At each of these it has a number that fits, which for the fixed ones is the chosen one.
  pub record IsAssignment (part : Part) (sizes : List ℕ) (fixed : List (ℕ × ℕ)) (a : Reading) : Type 0 where
    pub fits : AllFit a (unknowns_of f part sizes)
    pub same_numbers : (p i : ℕ) → list_any (is_at p i) (unknowns_of f part sizes) ≡ false → a.element p i ≡ (state_at f sizes).element p i
    pub same_sizes : (p : ℕ) → list_any (is_size_of p) (unknowns_of f part sizes) ≡ false → a.size p ≡ (state_at f sizes).size p
    pub same_script : (v : ℕ) → a.script v ≡ (state_at f sizes).script v
    pub chosen : AreFixed a fixed

  -- some assignment meets all these occurrences
  abbrev pub Sat : Part → List ℕ → List (ℕ × ℕ) → List Occurrence → Type 0
  Sat part sizes fixed os = (a : Reading) × IsAssignment part sizes fixed a × (all_true a os ≡ true)

-- ---- the pass over soft items, from the highest priority down (18.5.14.1)

-- A soft item is kept just where some assignment meets it together with what is asked before it: the hard items and those kept so far. S tells what some assignment meets.
-- There is a fate for each soft item, in order: true where it is kept.
abbrev pub Keeps : (List Occurrence → Type 0) → List Occurrence → List Occurrence → List Bool → Type 0
Keeps S asked [] fates = fates ≡ []
Keeps S asked (s ∷ soft) [] = ⊥
Keeps S asked (s ∷ soft) (true ∷ fates) = S (asked ++ s ∷ []) × Keeps S (asked ++ s ∷ []) soft fates
Keeps S asked (s ∷ soft) (false ∷ fates) = (S (asked ++ s ∷ []) → ⊥) × Keeps S asked soft fates

-- those that are kept
abbrev pub kept_of : List Occurrence → List Bool → List Occurrence
kept_of [] fates = []
kept_of (s ∷ soft) [] = []
kept_of (s ∷ soft) (true ∷ fates) = s ∷ kept_of soft fates
kept_of (s ∷ soft) (false ∷ fates) = kept_of soft fates

-- the ranks of those that are kept, where the first has the rank r
abbrev pub kept_ranks : ℕ → List Bool → List ℕ
kept_ranks r [] = []
kept_ranks r (true ∷ fates) = r ∷ kept_ranks (suc r) fates
kept_ranks r (false ∷ fates) = kept_ranks (suc r) fates

abbrev pub dropped_ranks : ℕ → List Bool → List ℕ
dropped_ranks r [] = []
dropped_ranks r (true ∷ fates) = dropped_ranks (suc r) fates
dropped_ranks r (false ∷ fates) = r ∷ dropped_ranks (suc r) fates

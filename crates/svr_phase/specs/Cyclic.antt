-- The choice of values of cyclic random properties (IEEE 1800-2017, 18.4.2; in this project a new cycle begins only where no unused value fits).
use Rattle.std.specs.Prelude.{◌≡◌, ◌==◌, ℕ, ◌%◌, Bool, true, false, not, cond, nat_lt, List, [], ◌∷◌, ◌++◌, map, length, take, drop, filter, slice_index_or}
use Rattle.std.specs.List.{All, list_any}
use Rattle.svr_frame.specs.declared.part.Part.TheVariants.{Randc}
use Rattle.svr_frame.specs.Frame.{FrameTerm, domain_of}
use Rattle.svr_frame.specs.Phases.{hard_of}
use Rattle.svr_frame.specs.Satisfaction.{Sat}
use Rattle.svr_phase.specs.declared.choice.Choice.{Choice}

abbrev pub fixed_of : List Choice → List (ℕ × ℕ)
fixed_of cs = map (λ c. (c.prop, c.value)) cs

-- ---- the values in the order in which they are tried

abbrev pub is_among : ℕ → List ℕ → Bool
is_among v vs = list_any (λ u. u == v) vs

abbrev pub unused : List ℕ → List ℕ → List ℕ
unused used domain = filter (λ v. not (is_among v used)) domain

-- from the place that the word names, going round
abbrev pub turned : ℕ → List ℕ → List ℕ
turned word vs = drop (word % length vs) vs ++ take (word % length vs) vs

-- first the unused values, then, in a new cycle, the whole domain, both from the place of the same word
abbrev pub tried : ℕ → ℕ → List ℕ → List ℕ → List Choice
tried prop word used domain =
    map (λ v. record { prop = prop; value = v; cycle = false }) (turned word (unused used domain))
    ++ map (λ v. record { prop = prop; value = v; cycle = true }) (turned word domain)

-- ---- the choice

-- what a call gives to this phase: the used values of each property, and the words of the call
pub record Cycles : Type 0 where
  pub used : List (List ℕ)
  pub words : ℕ → ℕ

-- the values that are tried for a property behind so many others, one word each
abbrev pub tried_for : FrameTerm → Cycles → ℕ → ℕ → List Choice
tried_for f c place prop = tried prop (c.words place) (slice_index_or c.used prop []) (domain_of f prop)

-- an assignment meets the items over cyclic properties with these values fixed
abbrev pub Fits : FrameTerm → List Choice → Choice → Type 0
Fits f before c = Sat f Randc f.state.sizes (fixed_of (before ++ c ∷ [])) (hard_of f Randc f.state.sizes)

-- the first of the tried values that fits: it fits, and those before it do not
pub record IsFirst (fits : Choice → Type 0) (tries : List Choice) (c : Choice) : Type 0 where
  pub refused : List Choice
  pub later : List Choice
  pub split : tries ≡ refused ++ c ∷ later
  pub none : All (λ t. fits t → ⊥) refused
  pub one : fits c

-- the properties one after the other, each with the earlier ones fixed
abbrev pub AreChosen : FrameTerm → Cycles → List Choice → List ℕ → List Choice → Type 0
AreChosen f c before [] [] = Unit {0}
AreChosen f c before [] (x ∷ xs) = ⊥
AreChosen f c before (p ∷ ps) [] = ⊥
AreChosen f c before (p ∷ ps) (x ∷ xs) = IsFirst (Fits f before) (tried_for f c (length before) p) x × AreChosen f c (before ++ x ∷ []) ps xs

-- none of the values fits
abbrev pub HasNoChoice : FrameTerm → Cycles → List Choice → ℕ → Type 0
HasNoChoice f c before p = All (λ t. Fits f before t → ⊥) (tried_for f c (length before) p)

-- a value has still to be tried, and those before it do not fit
pub record IsTrying (f : FrameTerm) (c : Cycles) (before : List Choice) (p : ℕ) : Type 0 where
  pub refused : List Choice
  pub next : Choice
  pub later : List Choice
  pub split : tried_for f c (length before) p ≡ refused ++ next ∷ later
  pub none : All (λ t. Fits f before t → ⊥) refused

-- ---- what is used afterwards

-- a number put in its place of a rising list
abbrev pub inserted : ℕ → List ℕ → List ℕ
inserted v vs = filter (λ u. nat_lt u v) vs ++ v ∷ filter (λ u. nat_lt v u) vs

-- a new cycle begins with nothing used
abbrev pub used_after : List ℕ → Choice → List ℕ
used_after used c = inserted c.value (cond c.cycle [] used)

-- the value is not among the used ones that it joins
abbrev pub IsFresh : List ℕ → Choice → Type 0
IsFresh used x = is_among x.value (cond x.cycle [] used) ≡ false

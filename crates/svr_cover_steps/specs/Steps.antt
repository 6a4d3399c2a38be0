-- Stored values in rising order, and the bins that have a value (IEEE 1800-2017, 19.5)
use Rattle.std.specs.Prelude.{ℕ, suc, nat_le, ◌<◌, ◌==◌, ◌-◌, ⊤, List, [], ◌∷◌, Option, None, Some, slice_get, if◌then◌else◌}
use Rattle.svr_cover_steps.specs.declared.steps.Step.{Step}

-- the bins of the last step at the value or below, where these are the bins below all of them
abbrev pub bins_from : List ℕ → List Step → ℕ → List ℕ
bins_from bins [] v = bins
bins_from bins (s ∷ ss) v = if nat_le s.from v then bins_from s.bins ss v else bins

-- the bins that have a value
abbrev pub bins_at : List Step → ℕ → List ℕ
bins_at ss v = bins_from [] ss v

-- each begins above the number
abbrev pub AreAbove : ℕ → List Step → Type 0
AreAbove n [] = ⊤
AreAbove n (s ∷ ss) = (n < s.from) × AreAbove n ss

-- each begins below all behind it
abbrev pub IsRising : List Step → Type 0
IsRising [] = ⊤
IsRising (s ∷ ss) = AreAbove s.from ss × IsRising ss

-- ---- the same by halving: the last step that begins at the value or below

abbrev pub start_of : Step → ℕ
start_of s = s.from

-- how many steps from the front begin at the value or below
abbrev pub below : List Step → ℕ → ℕ
below [] v = 0
below (s ∷ ss) v = if nat_le (start_of s) v then suc (below ss v) else 0

abbrev pub bins_in : Option Step → List ℕ
bins_in None = []
bins_in (Some s) = s.bins

abbrev pub last_bins : List Step → ℕ → List ℕ
last_bins ss count = if count == 0 then [] else bins_in (slice_get ss (count - 1))

-- The names of the bins of a point: that of its `bins`, or with `[]` that and each number that is written, in the written order (IEEE 1800-2017, 19.5.1)
use Rattle.std.specs.Prelude.{ℕ, zero, suc, ◌+◌, ◌-◌, nat_lt, List, [], ◌∷◌, ◌++◌, codes, decimal, if◌then◌else◌}
use Rattle.svr_cover_text.specs.declared.text.RangeText.{RangeText}
use Rattle.svr_cover_text.specs.declared.text.BinsText.{BinsText}
use Rattle.svr_cover_checked.specs.Numbers.{Spelling, low_of, size_of}

-- a number behind the text so far; 0 stands at the level 2^32
abbrev pub with_level : List ℕ → ℕ → List ℕ
with_level text level = if nat_lt level 4294967296 then (text ++ codes "-") ++ decimal (4294967296 - level) else text ++ decimal (level - 4294967296)

abbrev pub each_name : List ℕ → ℕ → List ℕ
each_name name level = with_level (name ++ codes "[") level ++ codes "]"

-- behind the names so far, those of so many numbers from a level on
abbrev pub with_numbers : List (List ℕ) → List ℕ → ℕ → ℕ → List (List ℕ)
with_numbers names name low zero = names
with_numbers names name low (suc n) = with_numbers names name low n ++ each_name name (low + n) ∷ []

abbrev pub with_ranges_names : Spelling → List ℕ → List (List ℕ) → List RangeText → List (List ℕ)
with_ranges_names text name names [] = names
with_ranges_names text name names (r ∷ rs) = with_ranges_names text name (with_numbers names name (low_of text r) (size_of text r)) rs

-- with those of one `bins` more
abbrev pub with_names : Spelling → List (List ℕ) → BinsText → List (List ℕ)
with_names text names b = if b.each then with_ranges_names text (text b.name) names b.ranges else names ++ text b.name ∷ []

abbrev pub with_all_names : Spelling → List (List ℕ) → List BinsText → List (List ℕ)
with_all_names text names [] = names
with_all_names text names (b ∷ bs) = with_all_names text (with_names text names b) bs

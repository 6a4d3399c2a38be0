-- The stored values that the numbers of bins have in a property of a type (IEEE 1800-2017, 19.5.1 and 6.11): a negative number stands above the others
use Rattle.std.specs.Prelude.{ℕ, zero, suc, ◌+◌, ◌-◌, ◌^◌, min, nat_lt, List, [], ◌∷◌, ◌++◌, if◌then◌else◌}
use Rattle.svr_typed.specs.declared.class.NumType.{NumType}
use Rattle.svr_cover_text.specs.declared.text.RangeText.{RangeText}
use Rattle.svr_cover_text.specs.declared.text.BinsText.{BinsText}
use Rattle.svr_cover_checked.specs.Numbers.{Spelling, low_of, high_of, size_of}
use Rattle.svr_cover_union.specs.declared.ranges.Range.{Range}

-- the greatest number of so many bits, of which there are at most 64
abbrev pub last_of : ℕ → ℕ
last_of bits = 2 ^ min bits 64 - 1

-- the greatest number of a type
abbrev pub top_of : NumType → ℕ
top_of kind = if kind.signed then last_of (kind.width - 1) else last_of kind.width

-- no value
abbrev pub no_range : Range
no_range = record { low = 1; high = 0 }

-- of the numbers from one level up to another those from 0 on
abbrev pub upper : NumType → ℕ → ℕ → Range
upper kind low high = if nat_lt high 4294967296 then no_range else record { low = low - 4294967296; high = min (high - 4294967296) (top_of kind) }

-- the stored value of -1 - n, the greatest number of all bits for -1
abbrev pub minus : NumType → ℕ → ℕ
minus kind n = last_of kind.width - n

-- and those below 0, the least of which a type has is -1 - its greatest number
abbrev pub lower : NumType → ℕ → ℕ → Range
lower kind low high = if nat_lt low 4294967296 then record { low = minus kind (min (4294967295 - low) (top_of kind)); high = minus kind (4294967295 - high) } else no_range

abbrev pub with_lower : NumType → ℕ → ℕ → List Range → List Range
with_lower kind low high rs = if kind.signed then rs ++ lower kind low high ∷ [] else rs

-- behind the ranges so far, those of the numbers from one level up to another
abbrev pub with_range : NumType → List Range → ℕ → ℕ → List Range
with_range kind rs low high = with_lower kind low high (rs ++ upper kind low high ∷ [])

abbrev pub with_ranges : Spelling → NumType → List Range → List RangeText → List Range
with_ranges text kind rs [] = rs
with_ranges text kind rs (x ∷ xs) = with_ranges text kind (with_range kind rs (low_of text x) (high_of text x)) xs

-- behind the bins so far, one for each of so many numbers from a level on
abbrev pub with_singles : NumType → List (List Range) → ℕ → ℕ → List (List Range)
with_singles kind bins low zero = bins
with_singles kind bins low (suc n) = with_singles kind bins low n ++ with_range kind [] (low + n) (low + n) ∷ []

abbrev pub with_each : Spelling → NumType → List (List Range) → List RangeText → List (List Range)
with_each text kind bins [] = bins
with_each text kind bins (x ∷ xs) = with_each text kind (with_singles kind bins (low_of text x) (size_of text x)) xs

-- with those of one `bins` more: one bin of all its numbers, or with `[]` one for each of them
abbrev pub with_bins : Spelling → NumType → List (List Range) → BinsText → List (List Range)
with_bins text kind bins b = if b.each then with_each text kind bins b.ranges else bins ++ with_ranges text kind [] b.ranges ∷ []

abbrev pub with_all_bins : Spelling → NumType → List (List Range) → List BinsText → List (List Range)
with_all_bins text kind bins [] = bins
with_all_bins text kind bins (b ∷ bs) = with_all_bins text kind (with_bins text kind bins b) bs

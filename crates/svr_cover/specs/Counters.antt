-- Counters in one list, and the numbers of a sample
use Rattle.std.specs.Prelude.{ℕ, ◌+◌, ◌-◌, ◌^◌, min, List, [], ◌∷◌, slice_index, slice_index_or, slice_set}

-- the number of a scalar property, as stored bits
abbrev pub number_of : List (List ℕ) → ℕ → ℕ
number_of values prop = slice_index (slice_index_or values prop []) 0

-- one more, as long as 64 bits hold it
abbrev pub one_more : ℕ → ℕ
one_more n = min (n + 1) (2 ^ 64 - 1)

-- one more at a counter
abbrev pub counted : List ℕ → ℕ → List ℕ
counted counts at = slice_set counts at (one_more (slice_index counts at))

-- one more at the counter of each of the bins, the first of which has the counter `first`
abbrev pub counted_from : ℕ → List ℕ → List ℕ → List ℕ
counted_from first counts [] = counts
counted_from first counts (b ∷ bs) = counted_from first (counted counts (first + b)) bs

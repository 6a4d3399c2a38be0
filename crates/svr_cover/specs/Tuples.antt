-- The tuples of a cross whose bins have the values of a sample, and their counters: the last point is the fastest (IEEE 1800-2017, 19.6)
use Rattle.std.specs.Prelude.{ℕ, zero, suc, ◌+◌, ◌*◌, ◌-◌, ◌/◌, ◌%◌, ◌^◌, min, ◌==◌, List, [], ◌∷◌, length, slice_index, if◌then◌else◌}
use Rattle.svr_cover.specs.declared.point.Point.{Point}
use Rattle.svr_cover.specs.declared.tuple.Way.{Way}
use Rattle.svr_cover.specs.Counters.{counted}
use Rattle.svr_cover.specs.Points.{hits_in, bins_in}

-- as far as 64 bits hold it
abbrev pub plus : ℕ → ℕ → ℕ
plus a b = min (a + b) (2 ^ 64 - 1)

abbrev pub times : ℕ → ℕ → ℕ
times a b = min (a * b) (2 ^ 64 - 1)

abbrev pub digit : ℕ → ℕ → ℕ
digit number many = if many == 0 then 0 else number % many

abbrev pub share : ℕ → ℕ → ℕ
share number many = if many == 0 then 0 else number / many

-- one point further towards the first: it has so many bins, and these of them have its value
abbrev pub further : Way → ℕ → List ℕ → Way
further x bins hits = record { number = plus x.number (times x.scale (slice_index hits (digit x.rest (length hits)))); scale = times x.scale bins; rest = share x.rest (length hits) }

abbrev pub walked : List Point → List (List ℕ) → Way → List ℕ → Way
walked points values x [] = x
walked points values x (p ∷ ps) = walked points values (further x (bins_in points p) (hits_in points values p)) ps

-- before the last point
abbrev pub start : ℕ → Way
start place = record { number = 0; scale = 1; rest = place }

-- the number of a tuple among all those of the cross. `cross` has the points from the last to the first
abbrev pub tuple_at : List Point → List (List ℕ) → List ℕ → ℕ → ℕ
tuple_at points values cross place = (walked points values (start place) cross).number

-- how many tuples of bins have the values
abbrev pub tuples_hit : List Point → List (List ℕ) → ℕ → List ℕ → ℕ
tuples_hit points values many [] = many
tuples_hit points values many (p ∷ ps) = tuples_hit points values (times many (length (hits_in points values p))) ps

-- one more at each of the first so many of these
abbrev pub counted_tuples : List Point → List (List ℕ) → ℕ → List ℕ → List ℕ → ℕ → List ℕ
counted_tuples points values first counts cross zero = counts
counted_tuples points values first counts cross (suc n) = counted (counted_tuples points values first counts cross n) (plus (tuple_at points values cross n) first)

abbrev pub counted_cross : List Point → List (List ℕ) → ℕ → List ℕ → List ℕ → List ℕ
counted_cross points values first counts cross = counted_tuples points values first counts cross (tuples_hit points values 1 cross)

-- The report of coverage, each line behind the text so far (IEEE 1800-2017, clause 19)
use Rattle.std.specs.Prelude.{ℕ, zero, suc, ◌+◌, ◌-◌, ◌/◌, ◌%◌, ◌^◌, min, ◌==◌, Bool, true, false, List, [], ◌∷◌, ◌++◌, length, codes, decimal, Option, None, Some, slice_get, slice_index, if◌then◌else◌}
use Rattle.svr_cover_report.specs.declared.names.PointNames.{PointNames}
use Rattle.svr_cover_report.specs.declared.names.CrossNames.{CrossNames}
use Rattle.svr_cover_report.specs.declared.names.PartNames.{PartNames}
use Rattle.svr_cover_report.specs.declared.names.PartNames.TheVariants as p
use Rattle.svr_cover_report.specs.declared.names.GroupNames.{GroupNames}

-- ---- counts

-- the counter at a place behind the first, as far as 64 bits hold that
abbrev pub count_at : List ℕ → ℕ → ℕ → ℕ
count_at counts first place = slice_index counts (min (place + first) (2 ^ 64 - 1))

abbrev pub hit : ℕ → ℕ
hit count = if count == 0 then 0 else 1

-- how many of so many counters are not 0
abbrev pub hits : List ℕ → ℕ → ℕ → ℕ
hits counts first zero = 0
hits counts first (suc n) = hits counts first n + hit (count_at counts first n)

abbrev pub digit : ℕ → ℕ → ℕ
digit number many = if many == 0 then 0 else number % many

abbrev pub share : ℕ → ℕ → ℕ
share number many = if many == 0 then 0 else number / many

-- ---- names

abbrev pub named : Option (List ℕ) → List ℕ
named None = []
named (Some name) = name

abbrev pub name_at : List (List ℕ) → ℕ → List ℕ
name_at names place = named (slice_get names place)

abbrev pub bins_in : Option PointNames → List (List ℕ)
bins_in None = []
bins_in (Some x) = x.bins

abbrev pub bins_of : List PointNames → ℕ → List (List ℕ)
bins_of points place = bins_in (slice_get points place)

-- ---- lines

abbrev pub with_number : List ℕ → ℕ → List ℕ
with_number text n = (text ++ codes " ") ++ decimal n

abbrev pub with_last : List ℕ → ℕ → List ℕ
with_last text n = with_number text n ++ codes "\n"

abbrev pub with_group : List ℕ → List ℕ → ℕ → List ℕ
with_group text name samples = with_last (((text ++ codes "group ") ++ name) ++ codes " samples") samples

abbrev pub with_hits : List ℕ → ℕ → ℕ → List ℕ
with_hits text found many = with_last (with_number (text ++ codes " hit") found ++ codes " of") many

abbrev pub with_point : List ℕ → List ℕ → ℕ → ℕ → List ℕ
with_point text name found many = with_hits ((text ++ codes "point ") ++ name) found many

abbrev pub with_cross : List ℕ → List ℕ → ℕ → ℕ → List ℕ
with_cross text name found many = with_hits ((text ++ codes "cross ") ++ name) found many

abbrev pub with_bin : List ℕ → List ℕ → ℕ → List ℕ
with_bin text name count = with_last ((text ++ codes "bin ") ++ name) count

abbrev pub with_opening : List ℕ → List ℕ
with_opening text = text ++ codes "bin <"

abbrev pub with_closing : List ℕ → ℕ → List ℕ
with_closing text count = with_last (text ++ codes ">") count

abbrev pub comma : Bool → List ℕ
comma true = []
comma false = codes ","

abbrev pub with_name : List ℕ → Bool → List ℕ → List ℕ
with_name text first name = (text ++ comma first) ++ name

-- ---- points

-- a line for each of the first so many bins
abbrev pub with_bins : List ℕ → List (List ℕ) → ℕ → List ℕ → ℕ → List ℕ
with_bins text names first counts zero = text
with_bins text names first counts (suc n) = with_bin (with_bins text names first counts n) (name_at names n) (count_at counts first n)

abbrev pub with_all_bins : List ℕ → List (List ℕ) → ℕ → List ℕ → List ℕ
with_all_bins text names first counts = with_bins text names first counts (length names)

abbrev pub with_whole_point : List ℕ → PointNames → List ℕ → List ℕ
with_whole_point text x counts = with_all_bins (with_point text x.name (hits counts x.first (length x.bins)) (length x.bins)) x.bins x.first counts

abbrev pub if_point : List ℕ → Option PointNames → List ℕ → List ℕ
if_point text None counts = text
if_point text (Some x) counts = with_whole_point text x counts

abbrev pub with_point_at : List ℕ → List PointNames → ℕ → List ℕ → List ℕ
with_point_at text points place counts = if_point text (slice_get points place) counts

-- ---- crosses

-- The names of the bins of a tuple, from the first of its points on, which has a bin for each `share span many` tuples. The last point is the fastest.
abbrev pub with_names : List ℕ → List PointNames → Bool → ℕ → ℕ → List ℕ → List ℕ
with_names text points first span rest [] = text
with_names text points first span rest (c ∷ cs) =
    with_names (with_name text first (name_at (bins_of points c) (share rest (share span (length (bins_of points c)))))) points false
    (share span (length (bins_of points c))) (digit rest (share span (length (bins_of points c)))) cs

abbrev pub with_tuple : List ℕ → List PointNames → CrossNames → List ℕ → ℕ → List ℕ
with_tuple text points x counts tuple = with_closing (with_names (with_opening text) points true x.tuples tuple x.points) (count_at counts x.first tuple)

-- a line for each of the first so many tuples
abbrev pub with_tuples : List ℕ → List PointNames → CrossNames → List ℕ → ℕ → List ℕ
with_tuples text points x counts zero = text
with_tuples text points x counts (suc n) = with_tuple (with_tuples text points x counts n) points x counts n

abbrev pub with_whole_cross : List ℕ → List PointNames → CrossNames → List ℕ → List ℕ
with_whole_cross text points x counts = with_tuples (with_cross text x.name (hits counts x.first x.tuples) x.tuples) points x counts x.tuples

-- ---- groups

abbrev pub with_part : List ℕ → List PointNames → List ℕ → PartNames → List ℕ
with_part text points counts (p.Point place) = with_point_at text points place counts
with_part text points counts (p.Cross x) = with_whole_cross text points x counts

abbrev pub with_parts : List PointNames → List ℕ → List ℕ → List PartNames → List ℕ
with_parts points counts text [] = text
with_parts points counts text (x ∷ xs) = with_parts points counts (with_part text points counts x) xs

abbrev pub with_whole_group : List ℕ → List ℕ → GroupNames → List ℕ
with_whole_group counts text g = with_parts g.points counts (with_group text g.name (count_at counts g.samples 0)) g.parts

abbrev pub with_groups : List ℕ → List ℕ → List GroupNames → List ℕ
with_groups counts text [] = text
with_groups counts text (g ∷ gs) = with_groups counts (with_whole_group counts text g) gs

-- What is refused in cover groups, in the order of the text (IEEE 1800-2017, clause 19)
use Rattle.std.specs.Prelude.{◌≡◌, ℕ, suc, ◌+◌, ◌*◌, ◌-◌, ◌^◌, min, Bool, true, ◌&&◌, nat_le, nat_lt, List, [], ◌∷◌, ◌++◌, map, Option, None, Some, is_some, slice_get, if◌then◌else◌}
use Rattle.svr_typed.specs.declared.class.Prop.{Prop}
use Rattle.svr_typed.specs.declared.class.TClass.{TClass}
use Rattle.svr_typed.specs.declared.class.FlatClass.{FlatClass}
use Rattle.svr_refusal.specs.declared.refusal.Refusal.TheVariants as refusal
use Rattle.svr_cover_text.specs.declared.text.BinsText.{BinsText}
use Rattle.svr_cover_text.specs.declared.text.PartText.{PartText}
use Rattle.svr_cover_text.specs.declared.text.PartText.TheVariants as t
use Rattle.svr_cover_text.specs.declared.text.GroupText.{GroupText}
use Rattle.svr_cover_checked.specs.declared.fault.CoverFault.{CoverFault}
use Rattle.svr_cover_checked.specs.declared.fault.CoverFault.TheVariants as e
use Rattle.svr_cover_checked.specs.declared.limits.TheConstants.{MOST_GROUPS, MOST_PARTS, MOST_BINS, MOST_TUPLES, MOST_ALL}
use Rattle.svr_cover_checked.specs.Numbers.{Spelling, unless, first_of, ranges_refusals, bins_count}
use Rattle.svr_cover_checked.specs.Places.{Finder, is_same, finder, second}
use Rattle.svr_cover_checked.specs.Design.{class_from, prop_from, props_of}

-- it is the first refusal, or there was no memory
abbrev pub IsFirst : CoverFault → List CoverFault → Type 0
IsFirst (e.Refused number token) rs = first_of rs ≡ Some (e.Refused number token)
IsFirst e.NoMemory rs = Unit {0}

-- ---- the bins of a point

abbrev pub bins_name : BinsText → ℕ
bins_name b = b.name

-- with those of one `bins` more, up to one more than there may be
abbrev pub count_behind : Spelling → ℕ → BinsText → ℕ
count_behind text count b = min (count + bins_count text b) (MOST_BINS + 1)

abbrev pub all_count : Spelling → ℕ → List BinsText → ℕ
all_count text count [] = count
all_count text count (b ∷ bs) = all_count text (count_behind text count b) bs

-- its name has stood before; with these there are too many bins; its ranges
abbrev pub one_refusals : Spelling → Finder → ℕ → ℕ → BinsText → List CoverFault
one_refusals text find i count b =
    second text find i b.name
    ++ (unless (nat_le (count + bins_count text b) MOST_BINS) refusal.TooManyBins b.name
    ++ ranges_refusals text b.each b.ranges 0 b.ranges)

-- `count` is how many bins there are before the i-th
abbrev pub bins_refusals : Spelling → Finder → ℕ → ℕ → List BinsText → List CoverFault
bins_refusals text find i count [] = []
bins_refusals text find i count (b ∷ bs) = one_refusals text find i count b ++ bins_refusals text find (suc i) (count_behind text count b) bs

abbrev pub all_bins_refusals : Spelling → List BinsText → List CoverFault
all_bins_refusals text bins = bins_refusals text (finder text (map bins_name bins)) 0 0 bins

-- ---- the parts of a group

-- what they are about: where each of their names stands first, the formal argument, the properties of the class, and of each part how many bins it has, if it is a point
pub record Group : Type 0 where
  pub text : Spelling
  pub find : Finder
  pub formal : ℕ
  pub props : List Prop
  pub counts : List (Option ℕ)

abbrev pub count_in : Option (Option ℕ) → Option ℕ
count_in None = None
count_in (Some count) = count

abbrev pub count_at : List (Option ℕ) → ℕ → Option ℕ
count_at counts place = count_in (slice_get counts place)

abbrev pub if_before : List (Option ℕ) → ℕ → Option ℕ → Option ℕ
if_before counts i None = None
if_before counts i (Some k) = if nat_lt k i then count_at counts k else None

-- how many bins the point of this name has that stands before the i-th part
abbrev pub point_bins : Group → ℕ → ℕ → Option ℕ
point_bins g i name = if_before g.counts i (g.find (g.text name))

-- one factor more, up to one more than there may be tuples
abbrev pub times : ℕ → ℕ → ℕ
times product factor = min (min (product * factor) (2 ^ 64 - 1)) (MOST_TUPLES + 1)

-- how many tuples a cross has, if all its points are known
abbrev pub tuples_from : Group → ℕ → ℕ → List ℕ → Option ℕ
tuples_from g i product [] = Some product
tuples_from g i product (p ∷ ps) = elim (point_bins g i p) [ None ↦ None | Some bins ↦ tuples_from g i (times product bins) ps ]

abbrev pub tuples_fit : Option ℕ → ℕ → Bool
tuples_fit None total = true
tuples_fit (Some n) total = nat_le n MOST_TUPLES && nat_le (min (total + n) (2 ^ 64 - 1)) MOST_ALL

abbrev pub with_tuples : Option ℕ → ℕ → ℕ
with_tuples None total = total
with_tuples (Some n) total = min (total + n) (2 ^ 64 - 1)

-- no earlier point has the name
abbrev pub points_refusals : Group → ℕ → List ℕ → List CoverFault
points_refusals g i [] = []
points_refusals g i (p ∷ ps) = unless (is_some (point_bins g i p)) refusal.UnknownCover p ++ points_refusals g i ps

-- its name has stood before; it is one part too many
abbrev pub head_refusals : Group → ℕ → ℕ → List CoverFault
head_refusals g i name = second g.text g.find i name ++ unless (nat_lt i MOST_PARTS) refusal.TooManyBins name

-- it is not the formal argument, or no scalar property of the class
abbrev pub names_refusals : Group → ℕ → ℕ → List CoverFault
names_refusals g formal prop = unless (is_same (g.text formal) (g.text g.formal)) refusal.UnknownCover formal ++ unless (is_some (prop_from 0 g.props (g.text prop))) refusal.UnknownCover prop

abbrev pub point_refusals : Group → ℕ → ℕ → ℕ → ℕ → List BinsText → List CoverFault
point_refusals g i name formal prop bins = head_refusals g i name ++ (names_refusals g formal prop ++ all_bins_refusals g.text bins)

-- `total` is how many tuples all crosses before have
abbrev pub cross_refusals : Group → ℕ → ℕ → ℕ → List ℕ → List CoverFault
cross_refusals g i total name points = head_refusals g i name ++ (unless (tuples_fit (tuples_from g i 1 points) total) refusal.TooManyBins name ++ points_refusals g i points)

abbrev pub part_refusals : Group → ℕ → ℕ → PartText → List CoverFault
part_refusals g i total (t.Point name formal prop bins) = point_refusals g i name formal prop bins
part_refusals g i total (t.Cross name points) = cross_refusals g i total name points

abbrev pub total_behind : Group → ℕ → ℕ → PartText → ℕ
total_behind g i total (t.Point name formal prop bins) = total
total_behind g i total (t.Cross name points) = with_tuples (tuples_from g i 1 points) total

abbrev pub parts_refusals : Group → ℕ → ℕ → List PartText → List CoverFault
parts_refusals g i total [] = []
parts_refusals g i total (x ∷ xs) = part_refusals g i total x ++ parts_refusals g (suc i) (total_behind g i total x) xs

abbrev pub parts_total : Group → ℕ → ℕ → List PartText → ℕ
parts_total g i total [] = total
parts_total g i total (x ∷ xs) = parts_total g (suc i) (total_behind g i total x) xs

-- ---- groups

abbrev pub part_name : PartText → ℕ
part_name (t.Point name formal prop bins) = name
part_name (t.Cross name points) = name

abbrev pub part_count : Spelling → PartText → Option ℕ
part_count text (t.Point name formal prop bins) = Some (all_count text 0 bins)
part_count text (t.Cross name points) = None

abbrev pub group_name : GroupText → ℕ
group_name g = g.name

abbrev pub group_of : Spelling → List TClass → List FlatClass → GroupText → Group
group_of text classes flats g = record {
  text = text;
  find = finder text (map part_name g.parts);
  formal = g.formal;
  props = props_of flats (class_from 0 classes (text g.class));
  counts = map (part_count text) g.parts;
}

-- its name has stood before; it is one group too many; there is no such class
abbrev pub group_refusals : Spelling → List TClass → List FlatClass → Finder → ℕ → ℕ → GroupText → List CoverFault
group_refusals text classes flats find i total g =
    second text find i g.name
    ++ (unless (nat_lt i MOST_GROUPS) refusal.TooManyBins g.name
    ++ (unless (is_some (class_from 0 classes (text g.class))) refusal.UnknownCover g.class
    ++ parts_refusals (group_of text classes flats g) 0 total g.parts))

abbrev pub groups_refusals : Spelling → List TClass → List FlatClass → Finder → ℕ → ℕ → List GroupText → List CoverFault
groups_refusals text classes flats find i total [] = []
groups_refusals text classes flats find i total (g ∷ gs) =
    group_refusals text classes flats find i total g ++ groups_refusals text classes flats find (suc i) (parts_total (group_of text classes flats g) 0 total g.parts) gs

-- in the order of the text: the place of each is that of its token, and those of one token stand in the order of their numbers
abbrev pub refusals : Spelling → List TClass → List FlatClass → List GroupText → List CoverFault
refusals text classes flats groups = groups_refusals text classes flats (finder text (map group_name groups)) 0 0 groups

-- What is planned of the parts of a group and of groups (IEEE 1800-2017, 19.3, 19.5 and 19.6): first the counter of a group's samples, then those of its parts in their order
use Rattle.std.specs.Prelude.{ℕ, suc, ◌+◌, false, List, [], ◌∷◌, ◌++◌, length, map, reverse, Option, None, Some, slice_get, slice_index}
use Rattle.svr_typed.specs.declared.class.NumType.{NumType}
use Rattle.svr_typed.specs.declared.class.Prop.{Prop}
use Rattle.svr_typed.specs.declared.class.TClass.{TClass}
use Rattle.svr_typed.specs.declared.class.FlatClass.{FlatClass}
use Rattle.svr_cover_text.specs.declared.text.BinsText.{BinsText}
use Rattle.svr_cover_text.specs.declared.text.PartText.{PartText}
use Rattle.svr_cover_text.specs.declared.text.PartText.TheVariants as t
use Rattle.svr_cover_text.specs.declared.text.GroupText.{GroupText}
use Rattle.svr_cover.specs.declared.group.Cross.{Cross}
use Rattle.svr_cover_report.specs.declared.names.PointNames.{PointNames}
use Rattle.svr_cover_report.specs.declared.names.CrossNames.{CrossNames}
use Rattle.svr_cover_report.specs.declared.names.PartNames.TheVariants as p
use Rattle.svr_cover_report.specs.declared.names.GroupNames.{GroupNames}
use Rattle.svr_cover_checked.specs.Numbers.{Spelling}
use Rattle.svr_cover_checked.specs.Places.{finder}
use Rattle.svr_cover_checked.specs.Design.{class_from, prop_from, props_of}
use Rattle.svr_cover_checked.specs.Refusals.{Group, part_name, part_count, tuples_from}
use Rattle.svr_cover_made.specs.declared.plan.PointPlan.{PointPlan}
use Rattle.svr_cover_made.specs.declared.plan.Parts.{Parts}
use Rattle.svr_cover_made.specs.declared.groups.GroupPlan.{GroupPlan}
use Rattle.svr_cover_made.specs.Named.{with_all_names}
use Rattle.svr_cover_made.specs.Stored.{with_all_bins}

-- a number that was found; what was not is refused
abbrev pub or_zero : Option ℕ → ℕ
or_zero None = 0
or_zero (Some n) = n

-- the type of a property
abbrev pub kind_in : Option Prop → NumType
kind_in None = record { width = 1; signed = false; members = None }
kind_in (Some p) = p.kind

abbrev pub kind_of : List Prop → ℕ → NumType
kind_of props place = kind_in (slice_get props place)

-- ---- where the points of a group stand among its points

abbrev pub rank_behind : PartText → ℕ → ℕ
rank_behind (t.Point name formal prop bins) n = suc n
rank_behind (t.Cross name points) n = n

-- before each part, how many points stand, where n stand before the first
abbrev pub ranks : ℕ → List PartText → List ℕ
ranks n [] = []
ranks n (x ∷ xs) = n ∷ ranks (rank_behind x n) xs

abbrev pub rank_in : List ℕ → Option ℕ → ℕ
rank_in rs None = 0
rank_in rs (Some k) = slice_index rs k

-- the place among the points of the group of that of a name
abbrev pub rank_of : Group → List ℕ → ℕ → ℕ
rank_of g rs name = rank_in rs (g.find (g.text name))

-- ---- parts

-- the stored values of the bins of a point, and its first counter
abbrev pub point_plan : Group → ℕ → ℕ → List BinsText → PointPlan
point_plan g first prop bins = record {
  prop = or_zero (prop_from 0 g.props (g.text prop));
  first = first;
  bins = with_all_bins g.text (kind_of g.props (or_zero (prop_from 0 g.props (g.text prop)))) [] bins;
}

abbrev pub point_names : Group → ℕ → ℕ → List BinsText → PointNames
point_names g first name bins = record { name = g.text name; first = first; bins = with_all_names g.text [] bins }

abbrev pub cross_plan : Group → List ℕ → ℕ → List ℕ → Cross
cross_plan g rs first points = record { first = first; points = reverse (map (rank_of g rs) points) }

-- the i-th part is this cross
abbrev pub cross_names : Group → List ℕ → ℕ → ℕ → ℕ → List ℕ → CrossNames
cross_names g rs i first name points = record { name = g.text name; first = first; tuples = or_zero (tuples_from g i 1 points); points = map (rank_of g rs) points }

abbrev pub with_point : Group → Parts → ℕ → ℕ → List BinsText → Parts
with_point g s name prop bins = record {
  points = s.points ++ point_plan g s.next prop bins ∷ [];
  crosses = s.crosses;
  named = s.named ++ point_names g s.next name bins ∷ [];
  parts = s.parts ++ p.Point (length s.points) ∷ [];
  next = s.next + length (point_plan g s.next prop bins).bins;
}

abbrev pub with_cross : Group → List ℕ → ℕ → Parts → ℕ → List ℕ → Parts
with_cross g rs i s name points = record {
  points = s.points;
  crosses = s.crosses ++ cross_plan g rs s.next points ∷ [];
  named = s.named;
  parts = s.parts ++ p.Cross (cross_names g rs i s.next name points) ∷ [];
  next = s.next + or_zero (tuples_from g i 1 points);
}

-- with the i-th part
abbrev pub with_part : Group → List ℕ → ℕ → Parts → PartText → Parts
with_part g rs i s (t.Point name formal prop bins) = with_point g s name prop bins
with_part g rs i s (t.Cross name points) = with_cross g rs i s name points

abbrev pub with_parts : Group → List ℕ → ℕ → Parts → List PartText → Parts
with_parts g rs i s [] = s
with_parts g rs i s (x ∷ xs) = with_parts g rs (suc i) (with_part g rs i s x) xs

-- before the first part, with this next counter
abbrev pub no_parts : ℕ → Parts
no_parts next = record { points = []; crosses = []; named = []; parts = []; next = next }

-- the parts of a group behind the counter of its samples
abbrev pub all_parts : Group → ℕ → List PartText → Parts
all_parts g first parts = with_parts g (ranks 0 parts) 0 (no_parts (suc first)) parts

-- ---- groups

-- a group of a class with these properties
abbrev pub about_of : Spelling → List Prop → GroupText → Group
about_of text props x = record { text = text; find = finder text (map part_name x.parts); formal = x.formal; props = props; counts = map (part_count text) x.parts }

abbrev pub group_names : Spelling → ℕ → GroupText → Parts → GroupNames
group_names text first x s = record { name = text x.name; samples = first; points = s.named; parts = s.parts }

abbrev pub planned : Spelling → List TClass → ℕ → GroupText → Parts → GroupPlan
planned text classes first x s = record {
  class = or_zero (class_from 0 classes (text x.class));
  samples = first;
  points = s.points;
  crosses = s.crosses;
  names = group_names text first x s;
  end = s.next;
}

-- a group whose first counter is this one
abbrev pub group_plan : Spelling → List TClass → List FlatClass → ℕ → GroupText → GroupPlan
group_plan text classes flats first x = planned text classes first x (all_parts (about_of text (props_of flats (class_from 0 classes (text x.class))) x) first x.parts)

-- groups from a counter on
abbrev pub group_plans : Spelling → List TClass → List FlatClass → ℕ → List GroupText → List GroupPlan
group_plans text classes flats first [] = []
group_plans text classes flats first (x ∷ xs) = group_plan text classes flats first x ∷ group_plans text classes flats (group_plan text classes flats first x).end xs

-- the counter behind all of them
abbrev pub end_of : Spelling → List TClass → List FlatClass → ℕ → List GroupText → ℕ
end_of text classes flats first [] = first
end_of text classes flats first (x ∷ xs) = end_of text classes flats (group_plan text classes flats first x).end xs

-- The names of a kind in the code's table are those of the definition
use Rattle.std.proofs.Common.{◌≡◌, ℕ, List, [], map, Option, Some, Result, Ok, Err, ap, ◌∙◌, subst}
use Rattle.std.specs.Prelude.{MatchResult}
use Rattle.svr_typed.specs.declared.class.Prop.{Prop}
use Rattle.svr_typed.specs.declared.class.TClass.{TClass}
use Rattle.svr_typed.specs.declared.class.FlatClass.{FlatClass}
use Rattle.svr_cover_text.specs.declared.text.BinsText.{BinsText}
use Rattle.svr_cover_text.specs.declared.text.PartText.{PartText}
use Rattle.svr_cover_text.specs.declared.text.GroupText.{GroupText}
use Rattle.svr_cover_checked.specs.declared.fault.CoverFault.{CoverFault}
use Rattle.svr_cover_checked.specs.declared.fault.CoverFault.TheVariants as e
use Rattle.svr_cover_checked.specs.Numbers.{Spelling, first_of}
use Rattle.svr_cover_checked.specs.Places.{Finder, finder}
use Rattle.svr_cover_checked.specs.Design.{class_from, props_of}
use Rattle.svr_cover_checked.specs.Refusals.{Group, IsFirst, bins_name, part_name, part_count, group_name, group_of, bins_refusals, all_bins_refusals, parts_refusals, parts_total, groups_refusals, refusals}

abbrev about : Spelling → Finder → ℕ → List Prop → List (Option ℕ) → Group
about text find formal props counts = record { text = text; find = find; formal = formal; props = props; counts = counts }

-- what the code says of a group is what the definition says
pub group-is : (text : Spelling) (classes : List TClass) (flats : List FlatClass) (g : GroupText) (find : Finder) (props : List Prop) (counts : List (Option ℕ)) (class : Option ℕ)
    → find ≡ finder text (map part_name g.parts) → props ≡ props_of flats class → class ≡ class_from 0 classes (text g.class) → counts ≡ map (part_count text) g.parts
    → about text find g.formal props counts ≡ group_of text classes flats g
group-is text classes flats g find props counts class f p c n =
    ap (λ z. about text z g.formal props counts) f ∙ ap (λ z. about text (finder text (map part_name g.parts)) g.formal z counts) (p ∙ ap (props_of flats) c)
    ∙ ap (λ z. about text (finder text (map part_name g.parts)) g.formal (props_of flats (class_from 0 classes (text g.class))) z) n

-- what is said of a list of parts
abbrev pub AreChecked : Group → ℕ → List PartText → Result ℕ CoverFault → Type 0
AreChecked g total parts r = MatchResult r (λ t. (parts_refusals g 0 total parts ≡ []) × (t ≡ parts_total g 0 total parts)) (λ e. IsFirst e (parts_refusals g 0 total parts))

pub checked-as : (g h : Group) (total : ℕ) (xs ys : List PartText) (r : Result ℕ CoverFault) → g ≡ h → xs ≡ ys → AreChecked g total xs r → AreChecked h total ys r
checked-as g h total xs ys r e f k = subst (λ (z : Group). AreChecked z total ys r) e (subst (λ (z : List PartText). AreChecked g total z r) f k)

-- ---- a table found: groups, and the `bins` of a point

-- the first refusal that the bins' checks answer is no want of memory
first-is : (x : CoverFault) (rs : List CoverFault) → first_of rs ≡ Some x → IsFirst x rs
first-is (e.Refused n t) rs h = h
first-is e.NoMemory rs h = tt

pub bins-checked : (text : Spelling) (bins : List BinsText) (find : Finder) (r : Result (Unit {0}) CoverFault) → find ≡ finder text (map bins_name bins)
    → MatchResult r (λ _. bins_refusals text find 0 0 bins ≡ []) (λ x. first_of (bins_refusals text find 0 0 bins) ≡ Some x)
    → MatchResult r (λ _. all_bins_refusals text bins ≡ []) (λ x. IsFirst x (all_bins_refusals text bins))
bins-checked text bins find (Ok _) f h = subst (λ (z : Finder). bins_refusals text z 0 0 bins ≡ []) f h
bins-checked text bins find (Err x) f h = first-is x (all_bins_refusals text bins) (subst (λ (z : Finder). first_of (bins_refusals text z 0 0 bins) ≡ Some x) f h)

pub groups-checked : (text : Spelling) (classes : List TClass) (flats : List FlatClass) (groups : List GroupText) (find : Finder) (r : Result (Unit {0}) CoverFault) → find ≡ finder text (map group_name groups)
    → MatchResult r (λ _. groups_refusals text classes flats find 0 0 groups ≡ []) (λ x. IsFirst x (groups_refusals text classes flats find 0 0 groups))
    → MatchResult r (λ _. refusals text classes flats groups ≡ []) (λ x. IsFirst x (refusals text classes flats groups))
groups-checked text classes flats groups find (Ok _) f h = subst (λ (z : Finder). groups_refusals text classes flats z 0 0 groups ≡ []) f h
groups-checked text classes flats groups find (Err x) f h = subst (λ (z : Finder). IsFirst x (groups_refusals text classes flats z 0 0 groups)) f h

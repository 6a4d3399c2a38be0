-- The parts of a group as the code sees the group
use Rattle.std.proofs.Common.{◌≡◌, ℕ, suc, List, Option, map, Result, ap, ◌∙◌, subst, IfOk}
use Rattle.svr_typed.specs.declared.class.Prop.{Prop}
use Rattle.svr_typed.specs.declared.class.TClass.{TClass}
use Rattle.svr_typed.specs.declared.class.FlatClass.{FlatClass}
use Rattle.svr_cover_text.specs.declared.text.PartText.{PartText}
use Rattle.svr_cover_text.specs.declared.text.GroupText.{GroupText}
use Rattle.svr_cover_checked.specs.Numbers.{Spelling}
use Rattle.svr_cover_checked.specs.Places.{Finder, finder}
use Rattle.svr_cover_checked.specs.Design.{class_from, props_of}
use Rattle.svr_cover_checked.specs.Refusals.{Group, part_name, part_count}
use Rattle.svr_cover_made.specs.declared.plan.Parts.{Parts}
use Rattle.svr_cover_made.specs.declared.groups.GroupPlan.{GroupPlan}
use Rattle.svr_cover_made.specs.Plan.{or_zero, ranks, with_parts, no_parts, all_parts, about_of, group_plan}

abbrev about : Spelling → Finder → ℕ → List Prop → List (Option ℕ) → Group
about text find formal props counts = record { text = text; find = find; formal = formal; props = props; counts = counts }

pub about-is : (text : Spelling) (g : GroupText) (find : Finder) (props : List Prop) (counts : List (Option ℕ))
    → find ≡ finder text (map part_name g.parts) → counts ≡ map (part_count text) g.parts → about text find g.formal props counts ≡ about_of text props g
about-is text g find props counts f n =
    ap (λ z. about text z g.formal props counts) f ∙ ap (λ z. about text (finder text (map part_name g.parts)) g.formal props z) n

abbrev pub AreParts : {E : Type 0} → Group → List ℕ → ℕ → List PartText → Result Parts E → Type 0
AreParts g rs first parts r = IfOk r (λ s. s ≡ with_parts g rs 0 (no_parts (suc first)) parts)

pub parts-as : {E : Type 0} (g h : Group) (rs : List ℕ) (first : ℕ) (xs ys : List PartText) (r : Result Parts E) → g ≡ h → rs ≡ ranks 0 ys → xs ≡ ys → AreParts g rs first xs r → IfOk r (λ s. s ≡ all_parts h first ys)
parts-as g h rs first xs ys r e q f k =
    subst (λ (z : Group). AreParts z (ranks 0 ys) first ys r) e (subst (λ (z : List ℕ). AreParts g z first ys r) q (subst (λ (z : List PartText). AreParts g rs first z r) f k))

-- a group of its class, its name and its parts
abbrev plan : ℕ → ℕ → List ℕ → Parts → GroupPlan
plan number first name s = record { class = number; samples = first; points = s.points; crosses = s.crosses; names = record { name = name; samples = first; points = s.named; parts = s.parts }; end = s.next }

pub plan-is : (text : Spelling) (classes : List TClass) (flats : List FlatClass) (first : ℕ) (x : GroupText) (number : ℕ) (name : List ℕ) (s : Parts)
    → number ≡ or_zero (class_from 0 classes (text x.class)) → name ≡ text x.name → s ≡ all_parts (about_of text (props_of flats (class_from 0 classes (text x.class))) x) first x.parts
    → plan number first name s ≡ group_plan text classes flats first x
plan-is text classes flats first x number name s n m p =
    ap (λ z. plan z first name s) n ∙ ap (λ z. plan (or_zero (class_from 0 classes (text x.class))) first z s) m ∙ ap (plan (or_zero (class_from 0 classes (text x.class))) first (text x.name)) p

-- Groups with the counters that are planned (IEEE 1800-2017, 19.5)
use Rattle.std.specs.Prelude.{◌≡◌, ◌<◌, ◌^◌, ℕ, ⊤, List, [], ◌∷◌, ◌++◌, length, map}
use Rattle.svr_typed.specs.declared.class.TClass.{TClass}
use Rattle.svr_typed.specs.declared.class.FlatClass.{FlatClass}
use Rattle.svr_cover_text.specs.declared.text.GroupText.{GroupText}
use Rattle.svr_cover_steps.specs.Steps.{bins_at}
use Rattle.svr_cover_union.specs.Union.{hits_from}
use Rattle.svr_cover.specs.declared.point.Point.{Point}
use Rattle.svr_cover.specs.declared.group.Group.{Group}
use Rattle.svr_cover_report.specs.declared.names.GroupNames.{GroupNames}
use Rattle.svr_cover_checked.specs.Numbers.{Spelling}
use Rattle.svr_cover_made.specs.declared.plan.PointPlan.{PointPlan}
use Rattle.svr_cover_made.specs.declared.groups.GroupPlan.{GroupPlan}
use Rattle.svr_cover_made.specs.declared.made.Made.{Made}
use Rattle.svr_cover_made.specs.Plan.{group_plan, group_plans, end_of}

-- the bins that a stored value has, in rising order, are those one of whose ranges has it
pub record IsPointOf (x : PointPlan) (p : Point) : Type 0 where
  pub prop : p.prop ≡ x.prop
  pub first : p.first ≡ x.first
  pub bins : p.bins ≡ length x.bins
  pub hits : (v : ℕ) → v < 2 ^ 64 → bins_at p.steps v ≡ hits_from 0 x.bins v

abbrev pub ArePointsOf : List PointPlan → List Point → Type 0
ArePointsOf [] [] = ⊤
ArePointsOf [] (p ∷ ps) = ⊥
ArePointsOf (x ∷ xs) [] = ⊥
ArePointsOf (x ∷ xs) (p ∷ ps) = IsPointOf x p × ArePointsOf xs ps

pub record IsGroupOf (x : GroupPlan) (g : Group) : Type 0 where
  pub class : g.class ≡ x.class
  pub samples : g.samples ≡ x.samples
  pub points : ArePointsOf x.points g.points
  pub crosses : g.crosses ≡ x.crosses

abbrev pub AreGroupsOf : List GroupPlan → List Group → Type 0
AreGroupsOf [] [] = ⊤
AreGroupsOf [] (g ∷ gs) = ⊥
AreGroupsOf (x ∷ xs) [] = ⊥
AreGroupsOf (x ∷ xs) (g ∷ gs) = IsGroupOf x g × AreGroupsOf xs gs

abbrev pub names_in : GroupPlan → GroupNames
names_in x = x.names

-- one group more
pub record IsNext (text : Spelling) (classes : List TClass) (flats : List FlatClass) (x : GroupText) (old new : Made) : Type 0 where
  pub group : Group
  pub made : IsGroupOf (group_plan text classes flats old.counters x) group
  pub groups : new.groups ≡ old.groups ++ group ∷ []
  pub names : new.names ≡ old.names ++ (group_plan text classes flats old.counters x).names ∷ []
  pub counters : new.counters ≡ (group_plan text classes flats old.counters x).end

-- the counters of all groups, what their report names, and how many counters there are
pub record IsMade (text : Spelling) (classes : List TClass) (flats : List FlatClass) (texts : List GroupText) (m : Made) : Type 0 where
  pub groups : AreGroupsOf (group_plans text classes flats 0 texts) m.groups
  pub names : m.names ≡ map names_in (group_plans text classes flats 0 texts)
  pub counters : m.counters ≡ end_of text classes flats 0 texts

-- Groups made one by one
use Rattle.std.proofs.Common.{◌≡◌, ◌<◌, ◌^◌, ℕ, List, [], ◌∷◌, ◌++◌, length, map, sym, ap, ◌∙◌, subst, append_assoc, append-nil}
use Rattle.svr_typed.specs.declared.class.TClass.{TClass}
use Rattle.svr_typed.specs.declared.class.FlatClass.{FlatClass}
use Rattle.svr_cover_text.specs.declared.text.GroupText.{GroupText}
use Rattle.svr_cover_steps.specs.Steps.{bins_at}
use Rattle.svr_cover_union.specs.declared.ranges.Range.{Range}
use Rattle.svr_cover_union.specs.Union.{hits_from}
use Rattle.svr_cover.specs.declared.point.Point.{Point}
use Rattle.svr_cover.specs.declared.group.Group.{Group}
use Rattle.svr_cover_checked.specs.Numbers.{Spelling}
use Rattle.svr_cover_report.specs.declared.names.GroupNames.{GroupNames}
use Rattle.svr_cover_made.specs.declared.plan.PointPlan.{PointPlan}
use Rattle.svr_cover_made.specs.declared.groups.GroupPlan.{GroupPlan}
use Rattle.svr_cover_made.specs.declared.made.Made.{Made}
use Rattle.svr_cover_made.specs.Plan.{group_plan, group_plans, end_of}
use Rattle.svr_cover_made.specs.Made.{IsPointOf, ArePointsOf, IsGroupOf, AreGroupsOf, names_in, IsNext, IsMade}

-- ---- points

-- a point over the ranges of its plan
pub is-point : (x : PointPlan) (p : Point) (rs : List (List Range)) → rs ≡ x.bins → p.prop ≡ x.prop → p.first ≡ x.first → p.bins ≡ length rs
    → ((v : ℕ) → v < 2 ^ 64 → bins_at p.steps v ≡ hits_from 0 rs v) → IsPointOf x p
is-point x p rs r prop first many h = record {
  prop = prop;
  first = first;
  bins = many ∙ ap length r;
  hits = λ v lt. h v lt ∙ ap (λ z. hits_from 0 z v) r;
}

-- whatever points those that are left are, all are those that are done and these
abbrev pub HavePoints : List PointPlan → List PointPlan → List Point → Type 0
HavePoints all left done = (ps : List Point) → ArePointsOf left ps → ArePointsOf all (done ++ ps)

pub first-points : (all : List PointPlan) (done : List Point) → done ≡ [] → HavePoints all all done
first-points all done e ps h = subst (λ (z : List Point). ArePointsOf all (z ++ ps)) (sym e) h

pub next-points : (all left : List PointPlan) (done : List Point) (x : PointPlan) (others : List PointPlan) (p : Point) → left ≡ x ∷ others → IsPointOf x p → HavePoints all left done → HavePoints all others (done ++ p ∷ [])
next-points all left done x others p l q h ps k =
    subst (λ (z : List Point). ArePointsOf all z) (sym (append_assoc done (p ∷ []) ps)) (h (p ∷ ps) (subst (λ (z : List PointPlan). ArePointsOf z (p ∷ ps)) (sym l) (q, k)))

pub all-points : (all left : List PointPlan) (done : List Point) → left ≡ [] → HavePoints all left done → ArePointsOf all done
all-points all left done l h = subst (λ (z : List Point). ArePointsOf all z) (append-nil done) (h [] (subst (λ (z : List PointPlan). ArePointsOf z []) (sym l) tt))

-- ---- groups

-- a group over the points of its plan
pub is-group : (x : GroupPlan) (g : Group) (xs : List PointPlan) → g.class ≡ x.class → g.samples ≡ x.samples → xs ≡ x.points → ArePointsOf xs g.points → g.crosses ≡ x.crosses → IsGroupOf x g
is-group x g xs class samples e points crosses = record { class = class; samples = samples; points = subst (λ (z : List PointPlan). ArePointsOf z g.points) e points; crosses = crosses }

-- one group more
pub is-next : (text : Spelling) (classes : List TClass) (flats : List FlatClass) (x : GroupText) (old new : Made) (p : GroupPlan) (g : Group) (n : GroupNames) → p ≡ group_plan text classes flats old.counters x → IsGroupOf p g → n ≡ p.names
    → new.groups ≡ old.groups ++ g ∷ [] → new.names ≡ old.names ++ n ∷ [] → new.counters ≡ p.end → IsNext text classes flats x old new
is-next text classes flats x old new p g n e made named groups names counters = record {
  group = g;
  made = subst (λ (z : GroupPlan). IsGroupOf z g) e made;
  groups = groups;
  names = names ∙ ap (λ z. old.names ++ z ∷ []) (named ∙ ap names_in e);
  counters = counters ∙ ap (λ (z : GroupPlan). z.end) e;
}

module _ (text : Spelling) (classes : List TClass) (flats : List FlatClass) (all : List GroupText) where
  pub record HasLeft (left : List GroupText) (m : Made) : Type 0 where
    pub groups : (gs : List Group) → AreGroupsOf (group_plans text classes flats m.counters left) gs → AreGroupsOf (group_plans text classes flats 0 all) (m.groups ++ gs)
    pub names : map names_in (group_plans text classes flats 0 all) ≡ m.names ++ map names_in (group_plans text classes flats m.counters left)
    pub counters : end_of text classes flats 0 all ≡ end_of text classes flats m.counters left

  pub first-left : (m : Made) → m.groups ≡ [] → m.names ≡ [] → m.counters ≡ 0 → HasLeft all m
  first-left m g n c = record {
    groups = λ gs h. subst (λ (z : List Group). AreGroupsOf (group_plans text classes flats 0 all) (z ++ gs)) (sym g) (subst (λ (z : ℕ). AreGroupsOf (group_plans text classes flats z all) gs) c h);
    names = sym (ap (λ z. z ++ map names_in (group_plans text classes flats m.counters all)) n ∙ ap (λ z. map names_in (group_plans text classes flats z all)) c);
    counters = sym (ap (λ z. end_of text classes flats z all) c);
  }

  pub next-left : (left : List GroupText) (old new : Made) (x : GroupText) (others : List GroupText) → left ≡ x ∷ others → IsNext text classes flats x old new → HasLeft left old → HasLeft others new
  next-left left old new x others l s h = record {
    groups = λ gs k. subst (λ (z : List Group). AreGroupsOf (group_plans text classes flats 0 all) z) (sym (ap (λ z. z ++ gs) s.groups ∙ append_assoc old.groups (s.group ∷ []) gs))
        (h.groups (s.group ∷ gs) (subst (λ (z : List GroupText). AreGroupsOf (group_plans text classes flats old.counters z) (s.group ∷ gs)) (sym l)
        (s.made, subst (λ (z : ℕ). AreGroupsOf (group_plans text classes flats z others) gs) s.counters k)));
    names = h.names ∙ ap (λ z. old.names ++ map names_in (group_plans text classes flats old.counters z)) l
        ∙ ap (λ z. old.names ++ (group_plan text classes flats old.counters x).names ∷ map names_in (group_plans text classes flats z others)) (sym s.counters)
        ∙ sym (append_assoc old.names ((group_plan text classes flats old.counters x).names ∷ []) (map names_in (group_plans text classes flats new.counters others))) ∙ ap (λ z. z ++ map names_in (group_plans text classes flats new.counters others)) (sym s.names);
    counters = h.counters ∙ ap (end_of text classes flats old.counters) l ∙ ap (λ z. end_of text classes flats z others) (sym s.counters);
  }

  pub all-left : (left : List GroupText) (m : Made) → left ≡ [] → HasLeft left m → IsMade text classes flats all m
  all-left left m l h = record {
    groups = subst (λ (z : List Group). AreGroupsOf (group_plans text classes flats 0 all) z) (append-nil m.groups) (h.groups [] (subst (λ (z : List GroupText). AreGroupsOf (group_plans text classes flats m.counters z) []) (sym l) tt));
    names = sym (h.names ∙ ap (λ z. m.names ++ map names_in (group_plans text classes flats m.counters z)) l ∙ append-nil m.names);
    counters = sym (h.counters ∙ ap (end_of text classes flats m.counters) l);
  }

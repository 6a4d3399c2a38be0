-- The points that are made have the bins that are planned
use Rattle.std.proofs.Common.{◌≡◌, ℕ, zero, suc, List, [], ◌∷◌, map, Some, slice_get, slice_index_or, subst}
use Rattle.std.proofs.lemmas.Option.{none-some, same_Some}
use Rattle.svr_typed.specs.declared.class.TClass.{TClass}
use Rattle.svr_typed.specs.declared.class.FlatClass.{FlatClass}
use Rattle.svr_cover_text.specs.declared.text.GroupText.{GroupText}
use Rattle.svr_cover.specs.declared.point.Point.{Point}
use Rattle.svr_cover.specs.declared.group.Group.{Group}
use Rattle.svr_cover_checked.specs.Numbers.{Spelling}
use Rattle.svr_cover_made.specs.declared.plan.PointPlan.{PointPlan}
use Rattle.svr_cover_made.specs.declared.groups.GroupPlan.{GroupPlan}
use Rattle.svr_cover_made.specs.declared.made.Made.{Made}
use Rattle.svr_cover_made.specs.Made.{ArePointsOf, IsGroupOf, AreGroupsOf, IsMade}
use Rattle.svr_cover_made.specs.Plan.{group_plans}
use Rattle.svr_cover_laws.specs.Counted.{HasBins, HaveBins}
use Rattle.svr_cover_made_laws.specs.Planned.{bins_of, HavePlannedBins}

points-have : (xs : List PointPlan) (ps : List Point) → ArePointsOf xs ps → HaveBins ps (map bins_of xs)
points-have [] [] a = λ j p e. absurd (none-some p e)
points-have [] (q ∷ ps) a = absurd a
points-have (x ∷ xs) [] a = absurd a
points-have (x ∷ xs) (q ∷ ps) a = λ j p e. at j p e (λ k h. points-have xs ps a.1 k p h)
  where
    at : (j : ℕ) (p : Point) → slice_get (q ∷ ps) j ≡ Some p → ((k : ℕ) → slice_get ps k ≡ Some p → HasBins p (slice_index_or (map bins_of xs) k [])) → HasBins p (slice_index_or (map bins_of (x ∷ xs)) j [])
    at zero p e f = subst (λ z. HasBins z x.bins) (same_Some q p e) (record { many = a.0.bins; hits = a.0.hits })
    at (suc k) p e f = f k e

group-of : (xs : List GroupPlan) (gs : List Group) → AreGroupsOf xs gs → (i : ℕ) (x : GroupPlan) (g : Group) → slice_get xs i ≡ Some x → slice_get gs i ≡ Some g → IsGroupOf x g
group-of [] gs a i x g e f = absurd (none-some x e)
group-of (y ∷ xs) [] a i x g e f = absurd a
group-of (y ∷ xs) (h ∷ gs) a zero x g e f = subst (λ z. IsGroupOf z g) (same_Some y x e) (subst (λ z. IsGroupOf y z) (same_Some h g f) a.0)
group-of (y ∷ xs) (h ∷ gs) a (suc i) x g e f = group-of xs gs a.1 i x g e f

pub have_planned : (text : Spelling) (classes : List TClass) (flats : List FlatClass) (groups : List GroupText) (m : Made) → IsMade text classes flats groups m → HavePlannedBins (group_plans text classes flats 0 groups) m.groups
have_planned text classes flats groups m h i x g e f = points-have x.points g.points (group-of (group_plans text classes flats 0 groups) m.groups h.groups i x g e f).points

-- The bins that are planned for the points of groups
use Rattle.std.specs.Prelude.{◌≡◌, ℕ, List, map, Some, slice_get}
use Rattle.svr_cover_union.specs.declared.ranges.Range.{Range}
use Rattle.svr_cover.specs.declared.group.Group.{Group}
use Rattle.svr_cover_made.specs.declared.plan.PointPlan.{PointPlan}
use Rattle.svr_cover_made.specs.declared.groups.GroupPlan.{GroupPlan}
use Rattle.svr_cover_laws.specs.Counted.{HaveBins}

abbrev pub bins_of : PointPlan → List (List Range)
bins_of x = x.bins

-- the points of each group have the bins of its plan
abbrev pub HavePlannedBins : List GroupPlan → List Group → Type 0
HavePlannedBins plans groups = (i : ℕ) (x : GroupPlan) (g : Group) → slice_get plans i ≡ Some x → slice_get groups i ≡ Some g → HaveBins g.points (map bins_of x.points)

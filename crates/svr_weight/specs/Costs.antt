-- What expressions and members of distributions weigh in a phase of a frame.
use Rattle.std.specs.Prelude.{ℕ, ◌+◌, ◌*◌, max, Bool, ◌||◌, slice_index, if◌then◌else◌, List, [], ◌∷◌, Option, None, Some}
use Rattle.svr_operator.specs.declared.Fold.{Fold}
use Rattle.svr_typed.specs.ExprTerm.{ExprTerm, NodeTerm, ExprTerms, RangeTerm, RangeTerms, BoundTerm}
use Rattle.svr_typed.specs.ItemTerm.{DistTerm}
use Rattle.svr_eval.specs.Value.{size_of}
use Rattle.svr_frame.specs.declared.part.Part.{Part}
use Rattle.svr_frame.specs.Frame.{FrameTerm, is_array}
use Rattle.svr_frame.specs.Reads.{has_free_size_in, is_open}
use Rattle.svr_frame.specs.Phases.{shape_at, sought_sizes}
use Rattle.svr_frame.specs.Weight as weight

module _ (f : FrameTerm) (part : Part) (ns : List ℕ) where
  -- an index whose value this phase looks for
  abbrev pub opens : ExprTerm → Bool
  opens e = is_open (shape_at f ns) (sought_sizes f part) e

  -- an expression that holds a size that this phase looks for
  abbrev pub holds_size : ExprTerm → Bool
  holds_size e = has_free_size_in (shape_at f ns) (sought_sizes f part) e

  abbrev pub cost : ExprTerm → ℕ → ℕ
  cost e w = weight.cost (shape_at f ns) (sought_sizes f part) e w

  abbrev pub node_cost : ℕ → NodeTerm → ℕ → ℕ
  node_cost from n w = weight.node_cost (shape_at f ns) (sought_sizes f part) from n w

  abbrev pub own_cost : ExprTerm → ℕ
  own_cost e = weight.own_cost (shape_at f ns) (sought_sizes f part) e

  abbrev pub exprs_cost : ExprTerms → ℕ
  exprs_cost es = weight.exprs_cost (shape_at f ns) (sought_sizes f part) es

  abbrev pub ranges_cost : ℕ → RangeTerms → ℕ
  ranges_cost n rs = weight.ranges_cost (shape_at f ns) (sought_sizes f part) n rs

  abbrev pub range_cost : ℕ → RangeTerm → ℕ
  range_cost n r = weight.range_cost (shape_at f ns) (sought_sizes f part) n r

  abbrev pub bound_cost : ℕ → BoundTerm → ℕ
  bound_cost n b = weight.bound_cost (shape_at f ns) (sought_sizes f part) n b

  -- an element of w bits of an array of two dimensions
  abbrev pub cell_cost : ℕ → ℕ → ExprTerm → ExprTerm → ℕ
  cell_cost w p first second = if opens first || opens second then w * slice_index ns p + own_cost first + own_cost second else 1

  -- a step of a reduction
  abbrev pub step_cost : Fold → ExprTerm → ℕ
  step_cost op body = weight.fold_cost op (size_of body) + own_cost body

  -- the members of a distribution beside a left side of n bits
  abbrev pub members_cost : ℕ → List DistTerm → ℕ
  members_cost n [] = 0
  members_cost n (d ∷ ds) = range_cost n d.range + members_cost n ds

  -- a comparison of two expressions
  abbrev pub pair_cost : ExprTerm → ExprTerm → ℕ
  pair_cost x y = max (size_of x) (size_of y) + cost x (max (size_of x) (size_of y)) + cost y (max (size_of x) (size_of y))

  -- a value compared with a left side of n bits
  abbrev pub value_cost : ℕ → ExprTerm → ℕ
  value_cost n e = max n (size_of e) + cost e (max n (size_of e))

-- the property, where it is an array
abbrev pub array_of : FrameTerm → Option ℕ → Option ℕ
array_of f None = None
array_of f (Some p) = if is_array f p then Some p else None

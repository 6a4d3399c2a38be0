-- What the items of a phase weigh: a measure of the clauses that they become. Constants are not folded.
use Rattle.std.specs.Prelude.{ℕ, ◌+◌, ◌-◌, ◌*◌, ◌^◌, max, min, Bool, true, false, not, ◌&&◌, ◌||◌, if◌then◌else◌, List, [], ◌∷◌, ◌++◌, Option, None, Some, filter}
use Rattle.svr_operator.specs.declared.Fold.{Fold}
use Rattle.svr_operator.specs.declared.Fold.TheVariants as fold
use Rattle.svr_typed.specs.ExprTerm.{ExprTerm, typed, NodeTerm, number, prop, element, cell, size, script, loop_index, reduce, of_object, bit_select, part_select, unary, binary, choice, inside, join, copies, sign, ExprTerms, no_exprs, more_exprs, RangeTerm, one, span, RangeTerms, no_ranges, more_ranges, BoundTerm, value, dollar}
use Rattle.svr_typed.specs.ItemTerm.{DistTerm}
use Rattle.svr_eval.specs.declared.operator.Arithmetic.{Arithmetic}
use Rattle.svr_eval.specs.declared.operator.Arithmetic.TheVariants as a
use Rattle.svr_eval.specs.declared.operator.Change.{Change}
use Rattle.svr_eval.specs.declared.operator.Change.TheVariants as ch
use Rattle.svr_eval.specs.declared.operator.BinaryKind.{BinaryKind}
use Rattle.svr_eval.specs.declared.operator.BinaryKind.TheVariants.{InContext, Shifted, ByPair, Logical}
use Rattle.svr_eval.specs.declared.operator.UnaryKind.{UnaryKind}
use Rattle.svr_eval.specs.declared.operator.UnaryKind.TheVariants.{Changed, Reduced}
use Rattle.svr_eval.specs.Operator.{binary_kind, unary_kind}
use Rattle.svr_eval.specs.Value.{size_of, property_of}
use Rattle.svr_frame.specs.declared.part.Part.{Part}
use Rattle.svr_frame.specs.declared.part.Part.TheVariants.{Randc, Sizes, All}
use Rattle.svr_frame.specs.Frame.{FrameTerm}
use Rattle.svr_frame.specs.Occurrences.{Occurrence, Shape, condition, guarded, fact_expr, is_hard}
use Rattle.svr_frame.specs.Reads.{has_free_size_in, is_open}
use Rattle.svr_frame.specs.Phases.{domain_items, size_items, cap_items, belongs, is_soft_of, active_at, shape_at, sought_sizes}

-- ---- operators, at the width w at which they are computed

abbrev pub arithmetic_cost : Arithmetic → ℕ → ℕ
arithmetic_cost a.Multiply w = 2 * w * w
arithmetic_cost a.Divide w = 4 * w * w
arithmetic_cost a.Modulus w = 4 * w * w
arithmetic_cost a.Add w = w
arithmetic_cost a.Subtract w = w
arithmetic_cost a.And w = w
arithmetic_cost a.Xor w = w
arithmetic_cost a.Xnor w = w
arithmetic_cost a.Or w = w

abbrev pub change_cost : Change → ℕ → ℕ
change_cost ch.Plus w = 1
change_cost ch.Minus w = w
change_cost ch.Not w = w

-- m and n are the operands' own sizes
abbrev pub binary_cost : BinaryKind → ℕ → ℕ → ℕ → ℕ
binary_cost (InContext op) w m n = arithmetic_cost op w
binary_cost (Shifted op) w m n = 8 * w
binary_cost (ByPair op) w m n = max m n
binary_cost (Logical op) w m n = m + n

abbrev pub unary_cost : UnaryKind → ℕ → ℕ → ℕ
unary_cost (Changed op) w n = change_cost op w
unary_cost (Reduced op) w n = n

-- the widths at which the operands are computed: left, right, and that of a unary operator
abbrev pub left_width : BinaryKind → ℕ → ℕ → ℕ → ℕ
left_width (InContext op) w m n = w
left_width (Shifted op) w m n = w
left_width (ByPair op) w m n = max m n
left_width (Logical op) w m n = m

abbrev pub right_width : BinaryKind → ℕ → ℕ → ℕ → ℕ
right_width (InContext op) w m n = w
right_width (Shifted op) w m n = n
right_width (ByPair op) w m n = max m n
right_width (Logical op) w m n = n

abbrev pub operand_width : UnaryKind → ℕ → ℕ → ℕ
operand_width (Changed op) w n = w
operand_width (Reduced op) w n = n

-- a step of an array reduction
abbrev pub fold_cost : Fold → ℕ → ℕ
fold_cost fold.Sum w = w
fold_cost fold.Product w = 2 * w * w
fold_cost fold.And w = w
fold_cost fold.Or w = w
fold_cost fold.Xor w = w

-- ---- expressions

module _ (sh : Shape) (free : ℕ → Bool) where
  -- a member that is an array counts as its elements, each of which is a part of weight 1
  abbrev pub member_cost : Option ℕ → ℕ → ℕ → ℕ
  member_cost None pair own = pair + own
  member_cost (Some p) pair own = if sh.is_array p then sh.size p * (pair + 1) else pair + own

  abbrev mutual
    -- at the width w at which it is computed
    pub cost : ExprTerm → ℕ → ℕ
    cost (typed from s n) w = node_cost from n w

    -- an index of an element counts only where one is open; the element is then chosen among all
    pub node_cost : ℕ → NodeTerm → ℕ → ℕ
    node_cost from (number v every) w = 1
    node_cost from (prop p) w = 1
    node_cost from (element p e) w = if is_open sh free e then from * sh.size p + cost e (size_of e) else 1
    node_cost from (cell p m first second) w =
        if is_open sh free first || is_open sh free second then from * sh.size p + cost first (size_of first) + cost second (size_of second) else 1
    node_cost from (size p m) w = 1
    node_cost from (script v) w = 1
    node_cost from (loop_index k) w = 1
    node_cost from (reduce p op body) w = sh.size p * (fold_cost op (size_of body) + cost body (size_of body))
    node_cost from (of_object o e) w = cost e w
    node_cost from (bit_select base first low) w = (if has_free_size_in sh free first then 8 * size_of base else 1) + cost base (size_of base) + cost first (size_of first)
    node_cost from (part_select base first last low) w = 1 + cost base (size_of base) + cost first (size_of first) + cost last (size_of last)
    node_cost from (unary op e) w = unary_cost (unary_kind op) w (size_of e) + cost e (operand_width (unary_kind op) w (size_of e))
    node_cost from (binary op l r) w =
        binary_cost (binary_kind op) w (size_of l) (size_of r) + cost l (left_width (binary_kind op) w (size_of l) (size_of r)) + cost r (right_width (binary_kind op) w (size_of l) (size_of r))
    node_cost from (choice t met unmet) w = w + cost t (size_of t) + cost met w + cost unmet w
    node_cost from (inside l rs) w = cost l (size_of l) + ranges_cost (size_of l) rs
    node_cost from (join parts) w = 1 + exprs_cost parts
    node_cost from (copies count parts) w = 1 + cost count (size_of count) + exprs_cost parts
    node_cost from (sign as_signed e) w = 1 + cost e (size_of e)

    pub exprs_cost : ExprTerms → ℕ
    exprs_cost no_exprs = 0
    exprs_cost (more_exprs e es) = cost e (size_of e) + exprs_cost es

    -- beside a left side of n bits
    pub ranges_cost : ℕ → RangeTerms → ℕ
    ranges_cost n no_ranges = 0
    ranges_cost n (more_ranges r rs) = range_cost n r + ranges_cost n rs

    pub range_cost : ℕ → RangeTerm → ℕ
    range_cost n (one e) = member_cost (property_of e) (max n (size_of e)) (cost e (max n (size_of e)))
    range_cost n (span low high) = bound_cost n low + bound_cost n high

    pub bound_cost : ℕ → BoundTerm → ℕ
    bound_cost n (value e) = max n (size_of e) + cost e (max n (size_of e))
    bound_cost n dollar = 0

  -- an expression alone
  abbrev pub own_cost : ExprTerm → ℕ
  own_cost e = cost e (size_of e)

  -- ---- occurrences

  -- each member of a distribution counts, whatever its weight is
  abbrev pub every_member : List ℕ → DistTerm → Bool
  every_member env d = true

  abbrev pub occurrence_cost : Occurrence → ℕ
  occurrence_cost o = own_cost (guarded (condition o.place.guards) (fact_expr every_member o.place.env o.fact))

  abbrev pub total : List Occurrence → ℕ
  total [] = 0
  total (o ∷ os) = occurrence_cost o + total os

-- ---- phases

abbrev pub capped : ℕ → ℕ
capped n = min n (2 ^ 128 - 1)

module _ (f : FrameTerm) where
  abbrev pub bounds_of : Part → List Occurrence
  bounds_of Randc = []
  bounds_of Sizes = cap_items f 0
  bounds_of All = []

  -- whether an occurrence counts: a hard one of the phase, or a soft one, also where a `disable soft` removes it
  abbrev pub counts : Part → List ℕ → Occurrence → Bool
  counts part sizes o = (is_hard o && belongs f part sizes o) || is_soft_of f part sizes o

  -- the bounds of free sizes weigh the same whatever the cap is
  abbrev pub weighed_of : Part → List ℕ → List Occurrence
  weighed_of part sizes = domain_items f part sizes ++ size_items f part ++ bounds_of part ++ filter (counts part sizes) (active_at f sizes)

  abbrev pub weight_of : Part → List ℕ → ℕ
  weight_of part sizes = capped (total (shape_at f sizes) (sought_sizes f part) (weighed_of part sizes))

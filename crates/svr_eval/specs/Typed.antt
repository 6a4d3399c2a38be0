-- The trees whose stored sizes and signs are right, and those that an assignment and some loops can serve.
use Rattle.std.specs.Prelude.{◌≡◌, ◌≤◌, ◌<◌, ◌^◌, ◌+◌, ◌*◌, ℕ, ℤ, pos, ◌-ℤ◌, ◌+ℤ◌, [], ⊤}
use Rattle.svr_limits.specs.declared.limit.TheConstants.{LOOP_LIMIT}
use Rattle.svr_num.specs.Num.{read_of}
use Rattle.svr_typed.specs.ExprTerm.{ExprTerm, typed, NodeTerm, number, prop, element, cell, size, script, loop_index, reduce, of_object, bit_select, part_select, unary, binary, choice, inside, join, copies, sign, ExprTerms, no_exprs, more_exprs, RangeTerm, one, span, RangeTerms, no_ranges, more_ranges, BoundTerm, value, dollar}
use Rattle.svr_eval.specs.Reading.{Reading, blank}
use Rattle.svr_eval.specs.Value.{size_of, node_size, sizes, sign_of, node_sign, alone}

-- ---- expressions of numbers and operators alone (11.2.1)

abbrev mutual
  pub IsConstant : ExprTerm → Type 0
  IsConstant (typed w s n) = NodeIsConstant n

  pub NodeIsConstant : NodeTerm → Type 0
  NodeIsConstant (number v every) = ⊤
  NodeIsConstant (prop p) = ⊥
  NodeIsConstant (element p e) = ⊥
  NodeIsConstant (cell p m first second) = ⊥
  NodeIsConstant (size p m) = ⊥
  NodeIsConstant (script v) = ⊥
  NodeIsConstant (loop_index k) = ⊥
  NodeIsConstant (reduce p op body) = ⊥
  NodeIsConstant (of_object o e) = ⊥
  NodeIsConstant (bit_select base first low) = ⊥
  NodeIsConstant (part_select base first last low) = ⊥
  NodeIsConstant (unary op e) = IsConstant e
  NodeIsConstant (binary op l r) = IsConstant l × IsConstant r
  NodeIsConstant (choice t met unmet) = IsConstant t × IsConstant met × IsConstant unmet
  NodeIsConstant (inside l members) = IsConstant l × RangesAreConstant members
  NodeIsConstant (join parts) = AreConstant parts
  NodeIsConstant (copies count parts) = IsConstant count × AreConstant parts
  NodeIsConstant (sign signed e) = IsConstant e

  pub AreConstant : ExprTerms → Type 0
  AreConstant no_exprs = ⊤
  AreConstant (more_exprs e es) = IsConstant e × AreConstant es

  pub RangesAreConstant : RangeTerms → Type 0
  RangesAreConstant no_ranges = ⊤
  RangesAreConstant (more_ranges r rs) = RangeIsConstant r × RangesAreConstant rs

  pub RangeIsConstant : RangeTerm → Type 0
  RangeIsConstant (one e) = IsConstant e
  RangeIsConstant (span low high) = BoundIsConstant low × BoundIsConstant high

  pub BoundIsConstant : BoundTerm → Type 0
  BoundIsConstant (value e) = IsConstant e
  BoundIsConstant dollar = ⊤

-- the number that a constant expression is
abbrev pub constant : ExprTerm → ℤ
constant e = read_of (sign_of e) (size_of e) (alone blank [] e)

-- ---- stored sizes and signs are those of the operands

abbrev mutual
  pub IsTyped : ExprTerm → Type 0
  IsTyped (typed w s n) = (1 ≤ w) × (w ≤ 64) × (node_size w n ≡ w) × (node_sign s n ≡ s) × NodeIsTyped w n

  pub NodeIsTyped : ℕ → NodeTerm → Type 0
  NodeIsTyped w (number v every) = v < 2 ^ w
  NodeIsTyped w (prop p) = ⊤
  NodeIsTyped w (element p e) = IsTyped e
  NodeIsTyped w (cell p m first second) = (1 ≤ m) × IsTyped first × IsTyped second
  NodeIsTyped w (size p m) = 1 ≤ m
  NodeIsTyped w (script v) = ⊤
  NodeIsTyped w (loop_index k) = ⊤
  NodeIsTyped w (reduce p op body) = IsTyped body
  NodeIsTyped w (of_object o e) = IsTyped e
  NodeIsTyped w (bit_select base first low) = IsTyped base × IsTyped first
  NodeIsTyped w (part_select base first last low) =
      IsTyped base × IsTyped first × IsTyped last × IsConstant first × IsConstant last × (constant first -ℤ constant last +ℤ pos 1 ≡ pos w)
  NodeIsTyped w (unary op e) = IsTyped e
  NodeIsTyped w (binary op l r) = IsTyped l × IsTyped r
  NodeIsTyped w (choice t met unmet) = IsTyped t × IsTyped met × IsTyped unmet
  NodeIsTyped w (inside l members) = IsTyped l × RangesAreTyped members
  NodeIsTyped w (join parts) = AreTyped parts
  -- the count is not negative
  NodeIsTyped w (copies count parts) =
      IsTyped count × IsConstant count × AreTyped parts × (alone blank [] count * sizes parts ≡ w) × (constant count ≡ pos (alone blank [] count))
  NodeIsTyped w (sign signed e) = IsTyped e

  pub AreTyped : ExprTerms → Type 0
  AreTyped no_exprs = ⊤
  AreTyped (more_exprs e es) = IsTyped e × AreTyped es

  pub RangesAreTyped : RangeTerms → Type 0
  RangesAreTyped no_ranges = ⊤
  RangesAreTyped (more_ranges r rs) = RangeIsTyped r × RangesAreTyped rs

  pub RangeIsTyped : RangeTerm → Type 0
  RangeIsTyped (one e) = IsTyped e
  RangeIsTyped (span low high) = BoundIsTyped low × BoundIsTyped high

  pub BoundIsTyped : BoundTerm → Type 0
  BoundIsTyped (value e) = IsTyped e
  BoundIsTyped dollar = ⊤

-- ---- what an assignment has for a tree fits the tree's sizes, and so many loops and reductions stand around it, within their limit; no part is another object's

module _ (a : Reading) where
  abbrev mutual
    pub CanRead : ℕ → ExprTerm → Type 0
    CanRead depth (typed w s n) = NodeCanRead depth w n

    pub NodeCanRead : ℕ → ℕ → NodeTerm → Type 0
    NodeCanRead depth w (number v every) = ⊤
    NodeCanRead depth w (prop p) = (i : ℕ) → a.element p i < 2 ^ w
    NodeCanRead depth w (element p e) = CanRead depth e × ((i : ℕ) → a.element p i < 2 ^ w)
    NodeCanRead depth w (cell p m first second) = CanRead depth first × CanRead depth second × ((i : ℕ) → a.element p i < 2 ^ w)
    NodeCanRead depth w (size p m) = a.size p < 2 ^ 32
    NodeCanRead depth w (script v) = a.script v < 2 ^ w
    NodeCanRead depth w (loop_index k) = k < depth
    NodeCanRead depth w (reduce p op body) = (depth < LOOP_LIMIT) × CanRead (depth + 1) body
    NodeCanRead depth w (of_object o e) = ⊥
    NodeCanRead depth w (bit_select base first low) = CanRead depth base × CanRead depth first
    NodeCanRead depth w (part_select base first last low) = CanRead depth base × CanRead depth first × CanRead depth last
    NodeCanRead depth w (unary op e) = CanRead depth e
    NodeCanRead depth w (binary op l r) = CanRead depth l × CanRead depth r
    NodeCanRead depth w (choice t met unmet) = CanRead depth t × CanRead depth met × CanRead depth unmet
    NodeCanRead depth w (inside l members) = CanRead depth l × RangesCanRead depth members
    NodeCanRead depth w (join parts) = AllCanRead depth parts
    NodeCanRead depth w (copies count parts) = CanRead depth count × AllCanRead depth parts
    NodeCanRead depth w (sign signed e) = CanRead depth e

    pub AllCanRead : ℕ → ExprTerms → Type 0
    AllCanRead depth no_exprs = ⊤
    AllCanRead depth (more_exprs e es) = CanRead depth e × AllCanRead depth es

    pub RangesCanRead : ℕ → RangeTerms → Type 0
    RangesCanRead depth no_ranges = ⊤
    RangesCanRead depth (more_ranges r rs) = RangeCanRead depth r × RangesCanRead depth rs

    pub RangeCanRead : ℕ → RangeTerm → Type 0
    RangeCanRead depth (one e) = CanRead depth e
    RangeCanRead depth (span low high) = BoundCanRead depth low × BoundCanRead depth high

    pub BoundCanRead : ℕ → BoundTerm → Type 0
    BoundCanRead depth (value e) = CanRead depth e
    BoundCanRead depth dollar = ⊤

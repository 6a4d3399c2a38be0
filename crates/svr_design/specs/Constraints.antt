-- What stands in the constraints of a design: names of what may stand there, and nothing that is refused (IEEE 1800-2017, 18.5 and 18.7). `props` are the properties of the class in flat order, `vars` the script variables where a set is in line, and `depth` loops and reductions stand around.
use Rattle.std.specs.Prelude.{◌≡◌, ◌≤◌, ◌<◌, int_lt, ◌+◌, ◌&&◌, ◌||◌, ◌⊎◌, ℕ, ℤ, pos, ◌+ℤ◌, Bool, true, false, List, [], ◌∷◌, Option, Some, None, ⊤, slice_get}
use Rattle.svr_operator.specs.declared.Share.{Share}
use Rattle.svr_operator.specs.declared.Rand.TheVariants as rand
use Rattle.svr_limits.specs.declared.limit.TheConstants.{LOOP_LIMIT}
use Rattle.svr_typed.specs.declared.Prop.{Prop}
use Rattle.svr_typed.specs.declared.TVar.{TVar}
use Rattle.svr_typed.specs.ExprTerm.{ExprTerm, typed, NodeTerm, number, prop, element, cell, size, script, loop_index, reduce, of_object, bit_select, part_select, unary, binary, choice, inside, join, copies, sign, ExprTerms, no_exprs, more_exprs, RangeTerm, one, span, RangeTerms, no_ranges, more_ranges, BoundTerm, value, dollar}
use Rattle.svr_typed.specs.ItemTerm as item
use Rattle.svr_typed.specs.ItemTerm.{DistTerm, ItemTerm, ItemTerms, ElseTerm}
use Rattle.svr_eval.specs.Value.{size_of, sign_of}
use Rattle.svr_eval.specs.Typed.{constant}
use Rattle.svr_design.specs.Types.{IsSomeArray, IsFixed, ScalarIs, ArrayIs, RowsAre, HasSecond, VariableIs, LowIs}
use Rattle.svr_design.specs.Mentions.{is_random, is_open, reads_cyclic, is_cyclic_one, dist_mentions}

-- a part-select lies in its vector, and does not ascend (11.5.1)
abbrev pub IsInside : ExprTerm → ℤ → ℤ → ℤ → Type 0
IsInside x low f l = (int_lt l low ≡ false) × (int_lt f l ≡ false) × (int_lt f (low +ℤ pos (size_of x)) ≡ true)

-- one index stands behind an array of one dimension; in a reduction its place is that of any element
abbrev pub IsLoop : ExprTerm → Type 0
IsLoop (typed w s (loop_index k)) = ⊤
IsLoop e = ⊥

module _ (props : List Prop) (vars : List TVar) where
  -- bits are numbered by the declared range of what they are selected from, and from 0 where it has none (11.5.1)
  -- that of an enum and of a script variable is in no design
  abbrev pub IsNumbered : ExprTerm → ℤ → Type 0
  IsNumbered (typed w s (prop p)) low = LowIs (slice_get props p) low
  IsNumbered (typed w s (element p i)) low = LowIs (slice_get props p) low
  IsNumbered (typed w s (cell p m i j)) low = LowIs (slice_get props p) low
  IsNumbered (typed w s (number v every)) low = ⊤
  IsNumbered (typed w s (script v)) low = ⊤
  IsNumbered e low = low ≡ pos 0

  abbrev mutual
    pub Stands : ℕ → ExprTerm → Type 0
    Stands depth (typed w s n) = NodeStands depth w s n

    pub NodeStands : ℕ → ℕ → Bool → NodeTerm → Type 0
    NodeStands depth w s (number v every) = ⊤
    NodeStands depth w s (prop p) = ScalarIs (slice_get props p) w s
    NodeStands depth w s (element p i) = ArrayIs (slice_get props p) w s × (HasSecond (slice_get props p) 1 ⊎ IsLoop i) × Stands depth i
    NodeStands depth w s (cell p m i j) = RowsAre (slice_get props p) m w s × Stands depth i × Stands depth j
    NodeStands depth w s (size p m) = HasSecond (slice_get props p) m
    NodeStands depth w s (script v) = VariableIs (slice_get vars v) w s
    NodeStands depth w s (loop_index k) = k < depth
    NodeStands depth w s (reduce p f body) = (depth < LOOP_LIMIT) × IsSomeArray (slice_get props p) × Stands (depth + 1) body
    NodeStands depth w s (of_object o e) = ⊥
    NodeStands depth w s (bit_select x i low) = Stands depth x × IsNumbered x low × Stands depth i × (is_random props i ≡ false)
    NodeStands depth w s (part_select x f l low) = Stands depth x × IsNumbered x low × Stands depth f × Stands depth l × IsInside x low (constant f) (constant l)
    NodeStands depth w s (unary op x) = Stands depth x
    NodeStands depth w s (binary op x y) = Stands depth x × Stands depth y
    NodeStands depth w s (choice t x y) = Stands depth t × Stands depth x × Stands depth y
    NodeStands depth w s (inside x rs) = Stands depth x × RangesStand depth rs
    NodeStands depth w s (join xs) = AllStand depth xs
    NodeStands depth w s (copies n xs) = Stands depth n × AllStand depth xs
    NodeStands depth w s (sign t x) = Stands depth x

    pub AllStand : ℕ → ExprTerms → Type 0
    AllStand depth no_exprs = ⊤
    AllStand depth (more_exprs x xs) = Stands depth x × AllStand depth xs

    pub RangesStand : ℕ → RangeTerms → Type 0
    RangesStand depth no_ranges = ⊤
    RangesStand depth (more_ranges r rs) = RangeStands depth r × RangesStand depth rs

    -- an array may stand as a member
    pub RangeStands : ℕ → RangeTerm → Type 0
    RangeStands depth (one x) = MemberStands depth x
    RangeStands depth (span l h) = BoundStands depth l × BoundStands depth h

    pub MemberStands : ℕ → ExprTerm → Type 0
    MemberStands depth (typed w s (prop p)) = ScalarIs (slice_get props p) w s ⊎ ArrayIs (slice_get props p) w s
    MemberStands depth (typed w s n) = NodeStands depth w s n

    pub BoundStands : ℕ → BoundTerm → Type 0
    BoundStands depth (value x) = Stands depth x
    BoundStands depth dollar = ⊤

  -- ---- items, under guards of which one is open or not, and which read something cyclic or not

  -- the members of `unique` have one size and sign, and none is cyclic (18.5.5)
  abbrev pub IsNotCyclic : ExprTerm → Type 0
  IsNotCyclic (typed w s (prop p)) = is_cyclic_one props p ≡ false
  IsNotCyclic e = ⊤

  abbrev pub AreMembers : ℕ → ℕ → Bool → ExprTerms → Type 0
  AreMembers depth w s no_exprs = ⊤
  AreMembers depth w s (more_exprs e es) = MemberStands depth e × IsNotCyclic e × (size_of e ≡ w) × (sign_of e ≡ s) × AreMembers depth w s es

  abbrev pub AreUnique : ℕ → ExprTerms → Type 0
  AreUnique depth no_exprs = ⊤
  AreUnique depth (more_exprs e es) = AreMembers depth (size_of e) (sign_of e) (more_exprs e es)

  -- what `disable soft` names: a property, an array or an element, whose indexes mention nothing that can be random (18.5.14.2)
  abbrev pub IsTarget : ℕ → ExprTerm → Type 0
  IsTarget depth (typed w s (prop p)) = MemberStands depth (typed w s (prop p))
  IsTarget depth (typed w s (element p i)) = Stands depth (typed w s (element p i)) × (is_random props i ≡ false)
  IsTarget depth (typed w s (cell p m i j)) = Stands depth (typed w s (cell p m i j)) × (is_random props i ≡ false) × (is_random props j ≡ false)
  IsTarget depth e = ⊥

  -- `solve` names scalars that are declared `rand` (18.5.10)
  abbrev pub IsPlainRand : Option Prop → Type 0
  IsPlainRand None = ⊥
  IsPlainRand (Some p) = p.rand ≡ rand.Rand

  abbrev pub AreSolved : ExprTerms → Type 0
  AreSolved no_exprs = ⊤
  AreSolved (more_exprs (typed w s (prop p)) es) = ScalarIs (slice_get props p) w s × IsPlainRand (slice_get props p) × AreSolved es
  AreSolved (more_exprs e es) = ⊥

  -- a weight mentions nothing that can be random, nor its size
  abbrev pub WeightStands : ℕ → Option (Share × ExprTerm) → Type 0
  WeightStands depth None = ⊤
  WeightStands depth (Some w) = Stands depth w.1 × (is_open props w.1 ≡ false)

  -- a member of `dist` is no array
  abbrev pub DealtRange : ℕ → RangeTerm → Type 0
  DealtRange depth (one x) = Stands depth x
  DealtRange depth (span l h) = BoundStands depth l × BoundStands depth h

  abbrev pub AreDealt : ℕ → List DistTerm → Type 0
  AreDealt depth [] = ⊤
  AreDealt depth (d ∷ ds) = DealtRange depth d.range × WeightStands depth d.weight × AreDealt depth ds

  -- `dist` is over something that can be random, and over nothing cyclic (18.5.4)
  abbrev pub DistStands : ℕ → ExprTerm → Option (List DistTerm) → Type 0
  DistStands depth e None = ⊤
  DistStands depth e (Some ds) = AreDealt depth ds × (is_open props e ≡ true) × (reads_cyclic props e ≡ false)

  abbrev pub dealt_cyclic : ExprTerm → Option (List DistTerm) → Bool
  dealt_cyclic e None = reads_cyclic props e
  dealt_cyclic e (Some ds) = reads_cyclic props e || dist_mentions (is_cyclic_one props) (is_cyclic_one props) ds

  abbrev mutual
    -- A soft item and the guards and loops around it read nothing cyclic; a guard around `disable soft` mentions nothing that can be random, nor its size. Two names of a `foreach` run over both dimensions of a fixed array (18.5.8.1).
    pub ItemStands : ℕ → Bool → Bool → ItemTerm → Type 0
    ItemStands depth is_opened cyclic (item.plain soft e ds) = Stands depth e × DistStands depth e ds × ((soft && (cyclic || dealt_cyclic e ds)) ≡ false)
    ItemStands depth is_opened cyclic (item.unique es) = AreUnique depth es
    ItemStands depth is_opened cyclic (item.implies t is) = Stands depth t × ItemsStand depth (is_opened || is_open props t) (cyclic || reads_cyclic props t) is
    ItemStands depth is_opened cyclic (item.branch t met unmet) =
        Stands depth t × ItemsStand depth (is_opened || is_open props t) (cyclic || reads_cyclic props t) met
        × ElseStands depth (is_opened || is_open props t) (cyclic || reads_cyclic props t) unmet
    ItemStands depth is_opened cyclic (item.foreach p m names is) =
        HasSecond (slice_get props p) m × ((names ≡ 1) ⊎ ((names ≡ 2) × IsFixed (slice_get props p))) × (depth + names ≤ LOOP_LIMIT)
        × ItemsStand (depth + names) is_opened (cyclic || is_cyclic_one props p) is
    ItemStands depth is_opened cyclic (item.disable e) = IsTarget depth e × (is_opened ≡ false)
    ItemStands depth is_opened cyclic (item.solve xs ys) = AreSolved xs × AreSolved ys

    pub ItemsStand : ℕ → Bool → Bool → ItemTerms → Type 0
    ItemsStand depth is_opened cyclic item.no_items = ⊤
    ItemsStand depth is_opened cyclic (item.more_items i is) = ItemStands depth is_opened cyclic i × ItemsStand depth is_opened cyclic is

    pub ElseStands : ℕ → Bool → Bool → ElseTerm → Type 0
    ElseStands depth is_opened cyclic item.no_else = ⊤
    ElseStands depth is_opened cyclic (item.else_items is) = ItemsStand depth is_opened cyclic is

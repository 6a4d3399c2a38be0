-- What stands in the statements of a design: names of what may stand there, an object made earlier for each that is used, and nothing that is refused (IEEE 1800-2017, clauses 8.7, 10, 12 and 18).
use Rattle.svr_limits.specs.declared.limit.TheConstants.{ELEMENT_LIMIT}
use Rattle.std.specs.Prelude.{◌≡◌, ◌≤◌, ◌<◌, ◌+◌, ◌*◌, ◌^◌, ◌⊎◌, ◌||◌, ℕ, ℤ, pos, nat_eq, Bool, true, false, List, [], ◌∷◌, ◌++◌, length, Option, Some, None, ⊤, slice_get}
use Rattle.std.specs.List.{list_any}
use Rattle.svr_typed.specs.declared.ArrayKind.{ArrayKind}
use Rattle.svr_typed.specs.declared.ArrayKind.TheVariants as array
use Rattle.svr_typed.specs.declared.Prop.{Prop}
use Rattle.svr_typed.specs.declared.TVar.{TVar}
use Rattle.svr_typed.specs.declared.VarKind.{VarKind}
use Rattle.svr_typed.specs.declared.VarKind.TheVariants as var_kind
use Rattle.svr_typed.specs.declared.CallList.{CallList}
use Rattle.svr_typed.specs.declared.CallList.TheVariants as call_list
use Rattle.svr_typed.specs.ExprTerm.{ExprTerm, typed, NodeTerm, number, prop, element, cell, size, script, loop_index, reduce, of_object, bit_select, part_select, unary, binary, choice, inside, join, copies, sign, ExprTerms, no_exprs, more_exprs, RangeTerm, one, span, RangeTerms, no_ranges, more_ranges, BoundTerm, value, dollar}
use Rattle.svr_typed.specs.ClassTerm.{FlatTerm}
use Rattle.svr_typed.specs.StmtTerm as stmt
use Rattle.svr_typed.specs.StmtTerm.{CallTerm, StmtTerm, StmtTerms, DesignTerm}
use Rattle.svr_flat.specs.Flat.{flat_class_of, no_class}
use Rattle.svr_eval.specs.Typed.{constant, IsTyped, AreTyped}
use Rattle.svr_eval.specs.Holds.{ItemsAreTyped}
use Rattle.svr_design.specs.Types.{ScalarIs, ArrayIs, HasSecond, VariableIs, LowIs, is_array, AllBelow, AllDiffer}
use Rattle.svr_design.specs.Mentions.{can_be_random}
use Rattle.svr_design.specs.Constraints.{IsInside, ItemsStand}

-- ---- objects and their classes

abbrev pub kind_class : VarKind → Option ℕ
kind_class (var_kind.Number k) = None
kind_class (var_kind.Object c) = Some c

abbrev pub variable_class : Option TVar → Option ℕ
variable_class None = None
variable_class (Some v) = kind_class v.kind

abbrev pub flat_of : DesignTerm → Option ℕ → FlatTerm
flat_of d None = no_class
flat_of d (Some c) = flat_class_of d.classes c

-- the class of an object variable with what it inherits
abbrev pub object_class : DesignTerm → ℕ → FlatTerm
object_class d o = flat_of d (variable_class (slice_get d.vars o))

abbrev pub object_props : DesignTerm → ℕ → List Prop
object_props d o = (object_class d o).props

abbrev pub IsSomeClass : Option ℕ → Type 0
IsSomeClass None = ⊥
IsSomeClass (Some c) = ⊤

abbrev pub IsObject : DesignTerm → ℕ → Type 0
IsObject d o = IsSomeClass (variable_class (slice_get d.vars o))

abbrev pub IsNumber : Option TVar → Type 0
IsNumber None = ⊥
IsNumber (Some v) = kind_class v.kind ≡ None

abbrev pub PlainKind : VarKind → Type 0
PlainKind (var_kind.Number k) = k.members ≡ None
PlainKind (var_kind.Object c) = ⊥

abbrev pub IsPlain : Option TVar → Type 0
IsPlain None = ⊥
IsPlain (Some v) = PlainKind v.kind

-- ---- expressions of statements

module _ (d : DesignTerm) where
  -- a value or an element of an object that can be random
  abbrev mutual
    pub is_random : ExprTerm → Bool
    is_random (typed w s n) = node_random n

    pub node_random : NodeTerm → Bool
    node_random (of_object o e) = part_random o e
    node_random (bit_select x i low) = is_random x || is_random i
    node_random (part_select x f l low) = is_random x
    node_random (unary op x) = is_random x
    node_random (binary op x y) = is_random x || is_random y
    node_random (choice t x y) = is_random t || (is_random x || is_random y)
    node_random (inside x rs) = is_random x || ranges_random rs
    node_random (join xs) = some_random xs
    node_random (copies n xs) = some_random xs
    node_random (sign s x) = is_random x
    node_random n = false

    pub part_random : ℕ → ExprTerm → Bool
    part_random o (typed w s (prop p)) = can_be_random (object_props d o) p
    part_random o (typed w s (element p i)) = can_be_random (object_props d o) p || is_random i
    part_random o e = false

    pub some_random : ExprTerms → Bool
    some_random no_exprs = false
    some_random (more_exprs x xs) = is_random x || some_random xs

    pub ranges_random : RangeTerms → Bool
    ranges_random no_ranges = false
    ranges_random (more_ranges r rs) = range_random r || ranges_random rs

    pub range_random : RangeTerm → Bool
    range_random (one x) = is_random x
    range_random (span l h) = bound_random l || bound_random h

    pub bound_random : BoundTerm → Bool
    bound_random (value x) = is_random x
    bound_random dollar = false

  abbrev pub PartNumbered : List Prop → ExprTerm → ℤ → Type 0
  PartNumbered props (typed w s (prop p)) low = LowIs (slice_get props p) low
  PartNumbered props (typed w s (element p i)) low = LowIs (slice_get props p) low
  PartNumbered props e low = low ≡ pos 0

  -- bits are numbered by the declared range of the property that they are selected from, and from 0 where there is none; that of an enum and of a script variable is in no design
  abbrev pub IsNumbered : ExprTerm → ℤ → Type 0
  IsNumbered (typed w s (of_object o e)) low = PartNumbered (object_props d o) e low
  IsNumbered (typed w s (number v every)) low = ⊤
  IsNumbered (typed w s (script v)) low = ⊤
  IsNumbered e low = low ≡ pos 0

  -- each property, element and size is the second part of an `of_object`, and the second part of each `of_object` is one of them
  abbrev mutual
    pub Reads : ExprTerm → Type 0
    Reads (typed w s n) = NodeReads w s n

    pub NodeReads : ℕ → Bool → NodeTerm → Type 0
    NodeReads w s (number v every) = ⊤
    NodeReads w s (prop p) = ⊥
    NodeReads w s (element p i) = ⊥
    NodeReads w s (cell p m i j) = ⊥
    NodeReads w s (size p m) = ⊥
    NodeReads w s (script v) = VariableIs (slice_get d.vars v) w s
    NodeReads w s (loop_index k) = ⊥
    NodeReads w s (reduce p f body) = ⊥
    NodeReads w s (of_object o e) = IsObject d o × PartReads o e
    NodeReads w s (bit_select x i low) = Reads x × IsNumbered x low × Reads i × (is_random i ≡ false)
    NodeReads w s (part_select x f l low) = Reads x × IsNumbered x low × Reads f × Reads l × IsInside x low (constant f) (constant l)
    NodeReads w s (unary op x) = Reads x
    NodeReads w s (binary op x y) = Reads x × Reads y
    NodeReads w s (choice t x y) = Reads t × Reads x × Reads y
    NodeReads w s (inside x rs) = Reads x × RangesRead rs
    NodeReads w s (join xs) = AllRead xs
    NodeReads w s (copies n xs) = Reads n × AllRead xs
    NodeReads w s (sign t x) = Reads x

    pub PartReads : ℕ → ExprTerm → Type 0
    PartReads o (typed w s (prop p)) = ScalarIs (slice_get (object_props d o) p) w s
    PartReads o (typed w s (element p i)) = ArrayIs (slice_get (object_props d o) p) w s × Reads i
    PartReads o (typed w s (size p m)) = HasSecond (slice_get (object_props d o) p) m
    PartReads o e = ⊥

    pub AllRead : ExprTerms → Type 0
    AllRead no_exprs = ⊤
    AllRead (more_exprs x xs) = Reads x × AllRead xs

    pub RangesRead : RangeTerms → Type 0
    RangesRead no_ranges = ⊤
    RangesRead (more_ranges r rs) = RangeReads r × RangesRead rs

    -- an array of an object may stand as a member
    pub RangeReads : RangeTerm → Type 0
    RangeReads (one x) = WholeArray x ⊎ Reads x
    RangeReads (span l h) = BoundReads l × BoundReads h

    pub WholeArray : ExprTerm → Type 0
    WholeArray (typed w s (of_object o (typed v t (prop p)))) = IsObject d o × ArrayIs (slice_get (object_props d o) p) v t
    WholeArray e = ⊥

    pub BoundReads : BoundTerm → Type 0
    BoundReads (value x) = Reads x
    BoundReads dollar = ⊤

  abbrev pub Value : ExprTerm → Type 0
  Value e = IsTyped e × Reads e

  abbrev pub Values : ExprTerms → Type 0
  Values es = AreTyped es × AllRead es

  -- ---- what statements name

  -- a scalar without an index, an array with the place of an element
  abbrev pub IsPlace : Option Prop → Option ExprTerm → Type 0
  IsPlace None i = ⊥
  IsPlace (Some p) None = is_array p.array ≡ false
  IsPlace (Some p) (Some i) = (is_array p.array ≡ true) × Value i

  abbrev pub IsDynamic : Option Prop → Type 0
  IsDynamic None = ⊥
  IsDynamic (Some p) = p.array ≡ array.Dynamic

  abbrev pub many : ExprTerms → ℕ
  many no_exprs = 0
  many (more_exprs x xs) = many xs + 1

  -- of the size of a fixed array, and for no array of two dimensions
  abbrev pub PatternFits : ℕ → ℕ → ArrayKind → Type 0
  PatternFits n m array.Scalar = ⊥
  PatternFits n m (array.Fixed k) = (n ≡ k) × (m ≡ 1)
  PatternFits n m array.Dynamic = n ≤ ELEMENT_LIMIT

  abbrev pub IsPattern : ℕ → Option Prop → Type 0
  IsPattern n None = ⊥
  IsPattern n (Some p) = PatternFits n p.inner p.array

  abbrev pub IsBelow : Option ℕ → ℕ → Type 0
  IsBelow None n = ⊤
  IsBelow (Some k) n = k < n

  -- different properties of the class
  abbrev pub IsList : ℕ → CallList → Type 0
  IsList n call_list.All = ⊤
  IsList n call_list.Null = ⊤
  IsList n (call_list.Listed ps) = AllBelow n ps × AllDiffer ps

  -- a script variable that is of no enum takes the answer
  abbrev pub IsAnswer : Option ℕ → Type 0
  IsAnswer None = ⊤
  IsAnswer (Some v) = IsPlain (slice_get d.vars v)

  pub record IsCall (c : CallTerm) : Type 0 where
    pub object : IsObject d c.object
    pub list : IsList (length (object_props d c.object)) c.list
    pub typed : ItemsAreTyped c.items
    pub stands : ItemsStand (object_props d c.object) d.vars 0 false false c.items
    pub answer : IsAnswer c.answer

  abbrev mutual
    pub StmtStands : StmtTerm → Type 0
    StmtStands (stmt.make o) = IsObject d o
    StmtStands (stmt.set_var v e) = IsNumber (slice_get d.vars v) × Value e
    StmtStands (stmt.set_prop o p i e) = IsObject d o × IsPlace (slice_get (object_props d o) p) i × Value e
    StmtStands (stmt.resize o p n) = IsObject d o × IsDynamic (slice_get (object_props d o) p) × (n ≤ ELEMENT_LIMIT)
    StmtStands (stmt.pattern o p es) = IsObject d o × IsPattern (many es) (slice_get (object_props d o) p) × Values es
    StmtStands (stmt.rand_mode o p e) = IsObject d o × IsBelow p (length (object_props d o)) × Value e
    StmtStands (stmt.constraint_mode o b e) = IsObject d o × IsBelow b (length (object_class d o).blocks) × Value e
    StmtStands (stmt.call c) = IsCall c
    StmtStands (stmt.repeat n s) = (n < 2 ^ 32) × StmtStands s
    StmtStands (stmt.list ss) = AllStmtsStand ss

    pub AllStmtsStand : StmtTerms → Type 0
    AllStmtsStand stmt.no_stmts = ⊤
    AllStmtsStand (stmt.more_stmts s ss) = StmtStands s × AllStmtsStand ss

-- ---- an object that is used is made earlier in the list or in one around it

abbrev pub Made : List ℕ → ℕ → Type 0
Made made o = list_any (nat_eq o) made ≡ true

module _ (made : List ℕ) where
  abbrev mutual
    -- the object variables that an expression of a statement reads
    pub Uses : ExprTerm → Type 0
    Uses (typed w s n) = NodeUses n

    pub NodeUses : NodeTerm → Type 0
    NodeUses (element p i) = Uses i
    NodeUses (of_object o e) = Made made o × Uses e
    NodeUses (bit_select x i low) = Uses x × Uses i
    NodeUses (part_select x f l low) = Uses x × Uses f × Uses l
    NodeUses (unary op x) = Uses x
    NodeUses (binary op x y) = Uses x × Uses y
    NodeUses (choice t x y) = Uses t × Uses x × Uses y
    NodeUses (inside x rs) = Uses x × RangesUse rs
    NodeUses (join xs) = AllUse xs
    NodeUses (copies n xs) = Uses n × AllUse xs
    NodeUses (sign t x) = Uses x
    NodeUses n = ⊤

    pub AllUse : ExprTerms → Type 0
    AllUse no_exprs = ⊤
    AllUse (more_exprs x xs) = Uses x × AllUse xs

    pub RangesUse : RangeTerms → Type 0
    RangesUse no_ranges = ⊤
    RangesUse (more_ranges r rs) = RangeUses r × RangesUse rs

    pub RangeUses : RangeTerm → Type 0
    RangeUses (one x) = Uses x
    RangeUses (span l h) = BoundUses l × BoundUses h

    pub BoundUses : BoundTerm → Type 0
    BoundUses (value x) = Uses x
    BoundUses dollar = ⊤

  abbrev pub IndexUses : Option ExprTerm → Type 0
  IndexUses None = ⊤
  IndexUses (Some i) = Uses i

-- what has an object behind a statement of the list
abbrev pub made_behind : StmtTerm → List ℕ → List ℕ
made_behind (stmt.make o) made = made ++ o ∷ []
made_behind s made = made

abbrev mutual
  pub Follows : List ℕ → StmtTerm → Type 0
  Follows made (stmt.make o) = ⊤
  Follows made (stmt.set_var v e) = Uses made e
  Follows made (stmt.set_prop o p i e) = Made made o × IndexUses made i × Uses made e
  Follows made (stmt.resize o p n) = Made made o
  Follows made (stmt.pattern o p es) = Made made o × AllUse made es
  Follows made (stmt.rand_mode o p e) = Made made o × Uses made e
  Follows made (stmt.constraint_mode o b e) = Made made o × Uses made e
  Follows made (stmt.call c) = Made made c.object
  Follows made (stmt.repeat n s) = Follows made s
  Follows made (stmt.list ss) = AllFollow made ss

  pub AllFollow : List ℕ → StmtTerms → Type 0
  AllFollow made stmt.no_stmts = ⊤
  AllFollow made (stmt.more_stmts s ss) = Follows made s × AllFollow (made_behind s made) ss

-- ---- how many statements run

abbrev mutual
  pub runs : StmtTerm → ℕ
  runs (stmt.repeat n s) = 1 + n * runs s
  runs (stmt.list ss) = 1 + all_run ss
  runs s = 1

  pub all_run : StmtTerms → ℕ
  all_run stmt.no_stmts = 0
  all_run (stmt.more_stmts s ss) = runs s + all_run ss

-- What a script that was read gives of its expressions: literals fit their widths, lists are as long as the grammar says, and loops can be numbered; and what the names of a place give: members fit their types.
use Rattle.std.specs.Prelude.{ℕ, ◌+◌, ◌^◌, ◌<◌, ◌≤◌, max, List, [], ◌∷◌, Option, Some, None, ⊤}
use Rattle.svr_tree.specs.ExprTree as raw
use Rattle.svr_tree.specs.ExprTree.{ExprTree, ExprTrees, RangeTree, RangeTrees, BoundTree}
use Rattle.svr_elab_names.specs.declared.Vector.{Vector}
use Rattle.svr_elab_names.specs.declared.Global.{Global}
use Rattle.svr_elab_names.specs.declared.Global.TheVariants as global
use Rattle.svr_elab_names.specs.declared.Dims.{Dims}
use Rattle.svr_elab_names.specs.declared.Dims.TheVariants as dims
use Rattle.svr_elab_names.specs.declared.Property.{Property}
use Rattle.svr_elab_names.specs.declared.VarStand.{VarStand}
use Rattle.svr_elab_names.specs.declared.VarStand.TheVariants as stand
use Rattle.svr_elab_names.specs.Names.{GlobalName, PropName, ClassName, VarName, Loop, Space}

abbrev pub IsSome : ExprTrees → Type 0
IsSome raw.no_exprs = ⊥
IsSome (raw.more_exprs x xs) = ⊤

-- a literal of width 0 is of one bit
abbrev mutual
  pub LiteralsFit : ExprTree → Type 0
  LiteralsFit (raw.number at v w s) = (w ≤ 64) × (v < 2 ^ max 1 w)
  LiteralsFit (raw.path at s names call) = ⊤
  LiteralsFit (raw.bit_select at x i call) = LiteralsFit x × LiteralsFit i
  LiteralsFit (raw.part_select at x f l call) = LiteralsFit x × LiteralsFit f × LiteralsFit l
  LiteralsFit (raw.unary at op x) = LiteralsFit x
  LiteralsFit (raw.binary at op x y) = LiteralsFit x × LiteralsFit y
  LiteralsFit (raw.choice at t x y) = LiteralsFit t × LiteralsFit x × LiteralsFit y
  LiteralsFit (raw.inside at x rs) = LiteralsFit x × RangesFit rs
  LiteralsFit (raw.join at xs) = IsSome xs × AllFit xs
  LiteralsFit (raw.copies at n xs) = LiteralsFit n × IsSome xs × AllFit xs
  LiteralsFit (raw.sign at s x) = LiteralsFit x
  LiteralsFit (raw.paren at x) = LiteralsFit x
  LiteralsFit (raw.reduce at x f item body) = LiteralsFit x × LiteralsFit body

  pub AllFit : ExprTrees → Type 0
  AllFit raw.no_exprs = ⊤
  AllFit (raw.more_exprs x xs) = LiteralsFit x × AllFit xs

  pub RangesFit : RangeTrees → Type 0
  RangesFit raw.no_ranges = ⊤
  RangesFit (raw.more_ranges r rs) = RangeFits r × RangesFit rs

  pub RangeFits : RangeTree → Type 0
  RangeFits (raw.one x) = LiteralsFit x
  RangeFits (raw.span l h) = BoundFits l × BoundFits h

  pub BoundFits : BoundTree → Type 0
  BoundFits (raw.value x) = LiteralsFit x
  BoundFits raw.dollar = ⊤

-- each name stands in fewer than 2^32 loops and reductions, where `depth` are around the expression
abbrev mutual
  pub LoopsFit : ℕ → ExprTree → Type 0
  LoopsFit depth (raw.number at v w s) = ⊤
  LoopsFit depth (raw.path at s names call) = depth < 2 ^ 32
  LoopsFit depth (raw.bit_select at x i call) = LoopsFit depth x × LoopsFit depth i
  LoopsFit depth (raw.part_select at x f l call) = LoopsFit depth x × LoopsFit depth f × LoopsFit depth l
  LoopsFit depth (raw.unary at op x) = LoopsFit depth x
  LoopsFit depth (raw.binary at op x y) = LoopsFit depth x × LoopsFit depth y
  LoopsFit depth (raw.choice at t x y) = LoopsFit depth t × LoopsFit depth x × LoopsFit depth y
  LoopsFit depth (raw.inside at x rs) = LoopsFit depth x × RangesLoopsFit depth rs
  LoopsFit depth (raw.join at xs) = AllLoopsFit depth xs
  LoopsFit depth (raw.copies at n xs) = LoopsFit depth n × AllLoopsFit depth xs
  LoopsFit depth (raw.sign at s x) = LoopsFit depth x
  LoopsFit depth (raw.paren at x) = LoopsFit depth x
  LoopsFit depth (raw.reduce at x f item body) = LoopsFit depth x × LoopsFit (depth + 1) body

  pub AllLoopsFit : ℕ → ExprTrees → Type 0
  AllLoopsFit depth raw.no_exprs = ⊤
  AllLoopsFit depth (raw.more_exprs x xs) = LoopsFit depth x × AllLoopsFit depth xs

  pub RangesLoopsFit : ℕ → RangeTrees → Type 0
  RangesLoopsFit depth raw.no_ranges = ⊤
  RangesLoopsFit depth (raw.more_ranges r rs) = RangeLoopsFit depth r × RangesLoopsFit depth rs

  pub RangeLoopsFit : ℕ → RangeTree → Type 0
  RangeLoopsFit depth (raw.one x) = LoopsFit depth x
  RangeLoopsFit depth (raw.span l h) = BoundLoopsFit depth l × BoundLoopsFit depth h

  pub BoundLoopsFit : ℕ → BoundTree → Type 0
  BoundLoopsFit depth (raw.value x) = LoopsFit depth x
  BoundLoopsFit depth raw.dollar = ⊤

-- the size of a type is 1 to 64 bits
abbrev pub KindFits : Option Vector → Type 0
KindFits None = ⊤
KindFits (Some k) = (1 ≤ k.kind.width) × (k.kind.width ≤ 64)

-- a member has a value of its type
abbrev pub MemberFits : Option ℕ → Option Vector → Type 0
MemberFits None kind = KindFits kind
MemberFits (Some v) None = ⊤
MemberFits (Some v) (Some k) = KindFits (Some k) × (v < 2 ^ k.kind.width)

abbrev pub GlobalFits : Global → Type 0
GlobalFits (global.OfType kind) = KindFits kind
GlobalFits (global.OfClass c) = ⊤
GlobalFits (global.OfMember v kind) = MemberFits v kind

abbrev pub Each : {A : Type 0} → (A → Type 0) → List A → Type 0
Each P [] = ⊤
Each P (x ∷ xs) = P x × Each P xs

-- the enum members that can be named fit their types
pub record MembersFit (n : Space) : Type 0 where
  pub globals : Each (λ (g : GlobalName). GlobalFits g.stands) n.globals

-- ---- what the declarations that can be named give

-- an array has an element, and fewer than 2^32 in each dimension
abbrev pub SizeFits : Option ℕ → Type 0
SizeFits None = ⊤
SizeFits (Some n) = (1 ≤ n) × (n < 2 ^ 32)

abbrev pub DimsFit : Dims → Type 0
DimsFit dims.Scalar = ⊤
DimsFit (dims.Fixed n) = SizeFits n
DimsFit (dims.Rows n m) = SizeFits n × SizeFits m
DimsFit dims.Dynamic = ⊤

abbrev pub PropertyFits : Property → Type 0
PropertyFits p = KindFits p.kind × DimsFit p.dims

abbrev pub ItemFits : Option Property → Type 0
ItemFits None = ⊤
ItemFits (Some p) = PropertyFits p

abbrev pub StandFits : VarStand → Type 0
StandFits (stand.OfNumber kind) = KindFits kind
StandFits (stand.OfObject c) = ⊤

-- types have 1 to 64 bits, members and dimensions fit
pub record NamesFit (n : Space) : Type 0 where
  pub globals : Each (λ (g : GlobalName). GlobalFits g.stands) n.globals
  pub props : Each (λ (p : PropName). PropertyFits p.property) n.props
  pub classes : Each (λ (c : ClassName). Each (λ (p : PropName). PropertyFits p.property) c.props) n.classes
  pub loops : Each (λ (l : Loop). ItemFits l.item) n.loops
  pub vars : Each (λ (v : VarName). StandFits v.stands) n.vars

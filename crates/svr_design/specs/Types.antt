-- The types, properties and variables of a design, and where a name may stand for each.
use Rattle.svr_limits.specs.declared.limit.TheConstants.{MEMBER_LIMIT, ELEMENT_LIMIT}
use Rattle.std.specs.Prelude.{◌≡◌, ◌≤◌, ◌<◌, ◌+◌, ◌*◌, ◌^◌, ℕ, ℤ, pos, negsuc, nat_eq, Bool, true, false, List, [], ◌∷◌, length, map, Option, Some, None, ⊤, slice_get, bytes_eq}
use Rattle.std.specs.List.{list_any}
use Rattle.svr_operator.specs.declared.Rand.{Rand}
use Rattle.svr_operator.specs.declared.Rand.TheVariants as rand
use Rattle.svr_typed.specs.declared.NumType.{NumType}
use Rattle.svr_typed.specs.declared.ArrayKind.{ArrayKind}
use Rattle.svr_typed.specs.declared.ArrayKind.TheVariants as array
use Rattle.svr_typed.specs.declared.Prop.{Prop}
use Rattle.svr_typed.specs.declared.EnumMember.{EnumMember}
use Rattle.svr_typed.specs.declared.EnumType.{EnumType}
use Rattle.svr_typed.specs.declared.TVar.{TVar}
use Rattle.svr_typed.specs.declared.VarKind.{VarKind}
use Rattle.svr_typed.specs.declared.VarKind.TheVariants as var_kind

-- ---- enums (6.19)

-- different numbers
abbrev pub AllDiffer : List ℕ → Type 0
AllDiffer [] = ⊤
AllDiffer (x ∷ xs) = (list_any (nat_eq x) xs ≡ false) × AllDiffer xs

abbrev pub AllBelow : ℕ → List ℕ → Type 0
AllBelow n [] = ⊤
AllBelow n (x ∷ xs) = (x < n) × AllBelow n xs

-- the base is a type without members
pub record IsEnum (e : EnumType) : Type 0 where
  pub plain : e.base.members ≡ None
  pub some : 1 ≤ length e.members
  pub few : length e.members ≤ MEMBER_LIMIT
  pub low : 1 ≤ e.base.width
  pub high : e.base.width ≤ 64
  pub fit : AllBelow (2 ^ e.base.width) (map (λ (m : EnumMember). m.value) e.members)
  pub differ : AllDiffer (map (λ (m : EnumMember). m.value) e.members)

-- ---- types of numbers

-- of values of an enum: the enum's width and sign
abbrev pub IsOfEnum : NumType → Option EnumType → Type 0
IsOfEnum k None = ⊥
IsOfEnum k (Some e) = (k.width ≡ e.base.width) × (k.signed ≡ e.base.signed)

abbrev pub NamesEnum : List EnumType → NumType → Option ℕ → Type 0
NamesEnum enums k None = ⊤
NamesEnum enums k (Some e) = IsOfEnum k (slice_get enums e)

pub record IsKind (enums : List EnumType) (k : NumType) : Type 0 where
  pub low : 1 ≤ k.width
  pub high : k.width ≤ 64
  pub members : NamesEnum enums k k.members

-- ---- properties

abbrev pub is_array : ArrayKind → Bool
is_array array.Scalar = false
is_array (array.Fixed n) = true
is_array array.Dynamic = true

-- a fixed array has 1 to 2,048 elements, over both of its dimensions
abbrev pub HasSize : ArrayKind → Type 0
HasSize array.Scalar = ⊤
HasSize (array.Fixed n) = (1 ≤ n) × (n ≤ ELEMENT_LIMIT)
HasSize array.Dynamic = ⊤

pub record Divides (m n : ℕ) : Type 0 where
  pub rows : ℕ
  pub product : rows * m ≡ n

-- the second dimension; 1 where there is none
abbrev pub HasInner : ArrayKind → ℕ → Type 0
HasInner array.Scalar m = m ≡ 1
HasInner (array.Fixed n) m = (1 ≤ m) × Divides m n
HasInner array.Dynamic m = m ≡ 1

-- a cyclic property is a scalar of at most 8 bits, or of at most 256 members (18.4.2)
abbrev pub HasFew : Option EnumType → Type 0
HasFew None = ⊥
HasFew (Some e) = length e.members ≤ 256

abbrev pub IsShortCycle : List EnumType → NumType → Option ℕ → Type 0
IsShortCycle enums k None = k.width ≤ 8
IsShortCycle enums k (Some e) = HasFew (slice_get enums e)

abbrev pub CycleFits : List EnumType → Prop → Rand → Type 0
CycleFits enums p rand.State = ⊤
CycleFits enums p rand.Rand = ⊤
CycleFits enums p rand.Randc = (is_array p.array ≡ false) × IsShortCycle enums p.kind p.kind.members

-- an array has no initial value
abbrev pub StartsAt : ArrayKind → ℕ → ℕ → Type 0
StartsAt array.Scalar w v = v < 2 ^ w
StartsAt (array.Fixed n) w v = v ≡ 0
StartsAt array.Dynamic w v = v ≡ 0

-- bits are numbered from 0 on, and below 2^63 (6.9.1)
abbrev pub NumbersFrom : ℤ → ℕ → Type 0
NumbersFrom (pos n) w = n + w ≤ 2 ^ 63
NumbersFrom (negsuc n) w = ⊥

pub record IsProp (enums : List EnumType) (p : Prop) : Type 0 where
  pub kind : IsKind enums p.kind
  pub size : HasSize p.array
  pub inner : HasInner p.array p.inner
  pub cycle : CycleFits enums p p.rand
  pub first : StartsAt p.array p.kind.width p.first
  pub low : NumbersFrom p.low p.kind.width

-- ---- what stands for a value of so many bits and this sign

-- a property without an index: a scalar, and the whole array
abbrev pub HasKind : NumType → ℕ → Bool → Type 0
HasKind k w s = (k.width ≡ w) × (k.signed ≡ s)

abbrev pub ScalarIs : Option Prop → ℕ → Bool → Type 0
ScalarIs None w s = ⊥
ScalarIs (Some p) w s = (is_array p.array ≡ false) × HasKind p.kind w s

abbrev pub ArrayIs : Option Prop → ℕ → Bool → Type 0
ArrayIs None w s = ⊥
ArrayIs (Some p) w s = (is_array p.array ≡ true) × HasKind p.kind w s

abbrev pub IsSomeArray : Option Prop → Type 0
IsSomeArray None = ⊥
IsSomeArray (Some p) = is_array p.array ≡ true

abbrev pub is_fixed : ArrayKind → Bool
is_fixed array.Scalar = false
is_fixed (array.Fixed n) = true
is_fixed array.Dynamic = false

abbrev pub IsFixed : Option Prop → Type 0
IsFixed None = ⊥
IsFixed (Some p) = is_fixed p.array ≡ true

-- an array of which m is the second dimension
abbrev pub RowsAre : Option Prop → ℕ → ℕ → Bool → Type 0
RowsAre None m w s = ⊥
RowsAre (Some p) m w s = (is_array p.array ≡ true) × (p.inner ≡ m) × HasKind p.kind w s

abbrev pub HasSecond : Option Prop → ℕ → Type 0
HasSecond None m = ⊥
HasSecond (Some p) m = (is_array p.array ≡ true) × (p.inner ≡ m)

abbrev pub NumberIs : VarKind → ℕ → Bool → Type 0
NumberIs (var_kind.Number k) w s = HasKind k w s
NumberIs (var_kind.Object c) w s = ⊥

abbrev pub VariableIs : Option TVar → ℕ → Bool → Type 0
VariableIs None w s = ⊥
VariableIs (Some v) w s = NumberIs v.kind w s

-- ---- the lowest bit number of the declared range of a property
abbrev pub LowIs : Option Prop → ℤ → Type 0
LowIs None low = ⊥
LowIs (Some p) low = p.low ≡ low

-- ---- names

abbrev pub NamesDiffer : List (List ℕ) → Type 0
NamesDiffer [] = ⊤
NamesDiffer (x ∷ xs) = (list_any (bytes_eq x) xs ≡ false) × NamesDiffer xs

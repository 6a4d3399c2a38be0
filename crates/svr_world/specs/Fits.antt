-- Worlds whose lists fit the classes of their objects, and changes that keep this.
use Rattle.std.specs.Prelude.{◌≡◌, ℕ, ◌<◌, ◌≤◌, ◌^◌, List, [], ◌∷◌, Option, Some, None, ⊤, length, slice_get}
use Rattle.std.specs.List.{All}
use Rattle.std.specs.List.Sorted.{IsStrictlyIncreasing}
use Rattle.svr_limits.specs.declared.limit.TheConstants.{ELEMENT_LIMIT}
use Rattle.svr_typed.specs.declared.class.Prop.{Prop}
use Rattle.svr_typed.specs.declared.class.ArrayKind.{ArrayKind}
use Rattle.svr_typed.specs.declared.class.ArrayKind.TheVariants.{Scalar, Fixed, Dynamic}
use Rattle.svr_typed.specs.ClassTerm.{FlatTerm}
use Rattle.svr_world.specs.declared.change.Replacement.{Replacement}
use Rattle.svr_world.specs.declared.change.Change.{Change}
use Rattle.svr_world.specs.World.{ObjectTerm, WorldTerm}

abbrev pub IsSize : ArrayKind → ℕ → Type 0
IsSize Scalar n = n ≡ 1
IsSize (Fixed m) n = n ≡ m
IsSize Dynamic n = ⊤

abbrev pub IsShort : List ℕ → Type 0
IsShort numbers = length numbers ≤ ELEMENT_LIMIT

-- the lists of a change are
abbrev pub AreShort : List Replacement → Type 0
AreShort rs = All (λ r. IsShort r.numbers) rs

abbrev pub AreRising : List Replacement → Type 0
AreRising rs = All (λ r. IsStrictlyIncreasing r.numbers) rs

-- a fixed array is within the limit
abbrev pub IsSmall : ArrayKind → Type 0
IsSmall Scalar = ⊤
IsSmall (Fixed m) = m ≤ ELEMENT_LIMIT
IsSmall Dynamic = ⊤

abbrev pub AreSmall : List Prop → Type 0
AreSmall props = All (λ p. IsSmall p.array) props

-- the initial value of a property is within its width
abbrev pub FirstFits : Prop → Type 0
FirstFits p = p.first < 2 ^ p.kind.width

abbrev pub FirstsFit : List Prop → Type 0
FirstsFit props = All FirstFits props

-- as many numbers as the property has places, each within its width
pub record FitsProp (p : Prop) (numbers : List ℕ) : Type 0 where
  pub size : IsSize p.array (length numbers)
  pub short : IsShort numbers
  pub within : All (λ v. v < 2 ^ p.kind.width) numbers

-- property by property
abbrev pub FitProps : List Prop → List (List ℕ) → Type 0
FitProps [] [] = ⊤
FitProps [] (l ∷ ls) = ⊥
FitProps (p ∷ ps) [] = ⊥
FitProps (p ∷ ps) (l ∷ ls) = FitsProp p l × FitProps ps ls

-- an object is one of its class
pub record FitsClass (flat : FlatTerm) (x : ObjectTerm) : Type 0 where
  pub values : FitProps flat.props x.values
  pub rand_modes : length x.rand_modes ≡ length flat.props
  pub block_modes : length x.block_modes ≡ length flat.blocks
  pub used : length x.used ≡ length flat.props
  pub rising : All IsStrictlyIncreasing x.used

abbrev pub FitsIfMade : List FlatTerm → Option ObjectTerm → Type 0
FitsIfMade classes None = ⊤
FitsIfMade classes (Some x) = (flat : FlatTerm) × (slice_get classes x.class ≡ Some flat) × FitsClass flat x

-- each object fits its class
abbrev pub IsWorldOf : List FlatTerm → WorldTerm → Type 0
IsWorldOf classes w = All (FitsIfMade classes) w.objects

-- the list fits the property that it is for
abbrev pub FitsPlace : List Prop → Replacement → Type 0
FitsPlace props r = (p : Prop) × (slice_get props r.prop ≡ Some p) × FitsProp p r.numbers

abbrev pub AreDistinct : List ℕ → Type 0
AreDistinct [] = ⊤
AreDistinct (p ∷ ps) = All (λ q. p ≡ q → ⊥) ps × AreDistinct ps

abbrev pub props_of : List Replacement → List ℕ
props_of [] = []
props_of (r ∷ rs) = r.prop ∷ props_of rs

-- what a change of an object of the class has to be
pub record FitsChange (flat : FlatTerm) (c : Change) : Type 0 where
  pub values : All (FitsPlace flat.props) c.values
  pub values_once : AreDistinct (props_of c.values)
  pub used : All (λ r. r.prop < length flat.props) c.used
  pub rising : AreRising c.used
  pub used_once : AreDistinct (props_of c.used)

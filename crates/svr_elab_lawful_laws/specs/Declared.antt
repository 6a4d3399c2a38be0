-- What holds of declarations in which nothing is refused (IEEE 1800-2017, clauses 6, 7 and 8).
use Rattle.std.specs.Prelude.{◌≡◌, ◌≤◌, ◌<◌, ◌^◌, ◌+◌, ℕ, List, [], ◌∷◌, ◌++◌, length, map, Option, Some, None, ⊤}
use Rattle.svr_limits.specs.declared.limit.TheConstants.{ARRAY_LIMIT, PROPERTY_LIMIT}
use Rattle.svr_typed.specs.declared.EnumType.{EnumType}
use Rattle.svr_design.specs.Types.{IsKind, IsProp, NumbersFrom, NamesDiffer}
use Rattle.svr_design.specs.Lawful.{BaseIsBefore}
use Rattle.svr_elab_names.specs.declared.Vector.{Vector}
use Rattle.svr_elab_names.specs.declared.Global.{Global}
use Rattle.svr_elab_names.specs.declared.Global.TheVariants as global
use Rattle.svr_elab_names.specs.declared.VarStand.{VarStand}
use Rattle.svr_elab_names.specs.declared.VarStand.TheVariants as stand
use Rattle.svr_elab_names.specs.Names.{GlobalName, PropName, ClassName, VarName}
use Rattle.svr_elab_part.specs.Fits.{Each}
use Rattle.svr_elab_class.specs.Classes.{props_at, arrays_in}
use Rattle.svr_elab.specs.Script.{property}

-- there is one, and this holds of it
abbrev pub There : {A : Type 0} → (A → Type 0) → Option A → Type 0
There P None = ⊥
There P (Some x) = P x

-- a type of a design with these enums, whose bits are numbered from 0 on and below 2^63
pub record VectorIs (es : List EnumType) (v : Vector) : Type 0 where
  pub kind : IsKind es v.kind
  pub low : NumbersFrom v.low v.kind.width

abbrev pub MemberIs : List EnumType → Option ℕ → Option Vector → Type 0
MemberIs es None kind = ⊥
MemberIs es (Some n) None = ⊥
MemberIs es (Some n) (Some v) = VectorIs es v × (n < 2 ^ v.kind.width)

-- `cs` is the number of classes
abbrev pub GlobalIs : List EnumType → ℕ → Global → Type 0
GlobalIs es cs (global.OfType kind) = There (VectorIs es) kind
GlobalIs es cs (global.OfClass c) = c < cs
GlobalIs es cs (global.OfMember n kind) = MemberIs es n kind

abbrev pub GlobalsAre : List EnumType → ℕ → List GlobalName → Type 0
GlobalsAre es cs gs = Each (λ (g : GlobalName). GlobalIs es cs g.stands) gs

-- a property that has a place in a design, and is lawful there
abbrev pub PropertyIs : List EnumType → PropName → Type 0
PropertyIs es p = There (IsProp es) (property p)

-- each property has its place as its number
abbrev pub PlacedFrom : ℕ → List PropName → Type 0
PlacedFrom k [] = ⊤
PlacedFrom k (p ∷ ps) = (p.property.number ≡ k) × PlacedFrom (k + 1) ps

-- class k of these: what it inherits stands first, and its own properties are known by its number
pub record ClassIs (es : List EnumType) (cs : List ClassName) (k : ℕ) (c : ClassName) : Type 0 where
  pub base : BaseIsBefore k c.base
  pub own : List PropName
  pub homes : Each (λ (p : PropName). p.property.home ≡ k) own
  pub flat : c.props ≡ props_at cs c.base ++ own
  pub inherited : c.inherited ≡ length (props_at cs c.base)
  pub props : Each (PropertyIs es) c.props
  pub places : PlacedFrom 0 c.props
  pub differ : NamesDiffer (map (λ (p : PropName). p.name) c.props)
  pub few : length c.props ≤ PROPERTY_LIMIT
  pub few_arrays : arrays_in c.props ≤ ARRAY_LIMIT

-- a script variable: a number of a known type, or an object of one of `cs` classes
abbrev pub StandIs : List EnumType → ℕ → VarStand → Type 0
StandIs es cs (stand.OfNumber kind) = There (VectorIs es) kind
StandIs es cs (stand.OfObject c) = c < cs

abbrev pub VarsStand : List EnumType → ℕ → List VarName → Type 0
VarsStand es cs vs = Each (λ (v : VarName). StandIs es cs v.stands) vs

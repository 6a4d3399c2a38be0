-- What is accepted has a typed tree, where what is declared is known.
use Rattle.std.specs.Prelude.{◌≡◌, true, [], Option, Some, None, is_some, ⊤}
use Rattle.svr_tree.specs.ExprTree.{ExprTree}
use Rattle.svr_elab_fault.specs.Refusals.{first_one}
use Rattle.svr_elab_names.specs.declared.Global.{Global}
use Rattle.svr_elab_names.specs.declared.Global.TheVariants as global
use Rattle.svr_elab_names.specs.declared.VarStand.{VarStand}
use Rattle.svr_elab_names.specs.declared.VarStand.TheVariants as stand
use Rattle.svr_elab_names.specs.declared.Dims.{Dims}
use Rattle.svr_elab_names.specs.declared.Dims.TheVariants as dims
use Rattle.svr_elab_names.specs.declared.Property.{Property}
use Rattle.svr_elab_names.specs.Names.{Space, GlobalName, PropName, ClassName, VarName, Loop}
use Rattle.svr_elab_part.specs.Fits.{Each}
use Rattle.svr_elab_part.specs.Elab.{value}

abbrev pub IsKnown : {A : Type 0} → Option A → Type 0
IsKnown x = is_some x ≡ true

-- the size of each dimension
abbrev pub DimsKnown : Dims → Type 0
DimsKnown dims.Scalar = ⊤
DimsKnown (dims.Fixed n) = IsKnown n
DimsKnown (dims.Rows n m) = IsKnown n × IsKnown m
DimsKnown dims.Dynamic = ⊤

abbrev pub PropertyKnown : Property → Type 0
PropertyKnown p = IsKnown p.kind × DimsKnown p.dims

abbrev pub ItemKnown : Option Property → Type 0
ItemKnown None = ⊤
ItemKnown (Some p) = PropertyKnown p

abbrev pub GlobalKnown : Global → Type 0
GlobalKnown (global.OfType kind) = ⊤
GlobalKnown (global.OfClass c) = ⊤
GlobalKnown (global.OfMember v kind) = IsKnown v × IsKnown kind

abbrev pub StandKnown : VarStand → Type 0
StandKnown (stand.OfNumber kind) = IsKnown kind
StandKnown (stand.OfObject c) = ⊤

-- no declaration that can be named was refused, and none stands further down
pub record NamesKnown (n : Space) : Type 0 where
  pub globals : Each (λ (g : GlobalName). GlobalKnown g.stands) n.globals
  pub props : Each (λ (p : PropName). PropertyKnown p.property) n.props
  pub classes : Each (λ (c : ClassName). Each (λ (p : PropName). PropertyKnown p.property) c.props) n.classes
  pub later : n.later ≡ []
  pub loops : Each (λ (l : Loop). ItemKnown l.item) n.loops
  pub vars : Each (λ (v : VarName). StandKnown v.stands) n.vars

-- an expression without a refusal has a typed tree
abbrev pub AcceptedHasTree : Type 0
AcceptedHasTree = (n : Space) (e : ExprTree) → NamesKnown n → (value first_one n e).faults ≡ None → IsKnown (value first_one n e).tree

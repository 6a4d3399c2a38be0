-- What is accepted in a statement reads what stands in the design (IEEE 1800-2017, clauses 8.7 and 11).
use Rattle.std.specs.Prelude.{◌≡◌, ℕ, List, [], Option, Some, None, MatchOption, ⊤, slice_get}
use Rattle.svr_typed.specs.declared.Prop.{Prop}
use Rattle.svr_typed.specs.declared.TVar.{TVar}
use Rattle.svr_typed.specs.declared.VarKind.TheVariants as var_kind
use Rattle.svr_typed.specs.StmtTerm.{DesignTerm}
use Rattle.svr_tree.specs.ExprTree.{ExprTree}
use Rattle.svr_tree.specs.ScriptTree.{ScriptTree}
use Rattle.svr_tree.specs.ScriptGrammar.{IsLevelled}
use Rattle.svr_flat.specs.Flat.{flat_class_of}
use Rattle.svr_design.specs.Statements.{Reads, variable_class}
use Rattle.svr_elab_fault.specs.Refusals.{first_one}
use Rattle.svr_elab_names.specs.declared.Vector.{Vector}
use Rattle.svr_elab_names.specs.declared.Property.{Property}
use Rattle.svr_elab_names.specs.declared.VarStand.{VarStand}
use Rattle.svr_elab_names.specs.declared.VarStand.TheVariants as stand
use Rattle.svr_elab_names.specs.Names.{Space, PropName, VarName, class_props}
use Rattle.svr_elab_part.specs.Fits.{Each, NamesFit, LiteralsFit}
use Rattle.svr_elab_part.specs.Elab.{value}
use Rattle.svr_elab.specs.Script.{faults_of, design_in, array_kind}
use Rattle.svr_elab_stand_laws.specs.Stand.{IsDesigned}
use Rattle.svr_elab_lawful_laws.specs.Places.{names_of}

abbrev pub IsVar : VarStand → Option VarName → Type 0
IsVar s None = ⊥
IsVar s (Some v) = v.stands ≡ s

-- the variable of this number is this
abbrev pub VarIs : List VarName → ℕ → VarStand → Type 0
VarIs vs k s = IsVar s (slice_get vs k)

-- a number of just this type
abbrev pub KindAt : Option Vector → Option TVar → Type 0
KindAt None t = ⊥
KindAt (Some k) None = ⊥
KindAt (Some k) (Some t) = t.kind ≡ var_kind.Number k.kind

-- an array of just these dimensions
abbrev pub ArrayThere : Property → Option Prop → Type 0
ArrayThere p None = ⊥
ArrayThere p (Some q) = array_kind p.dims ≡ Some q.array

abbrev pub IsThere : List Prop → Property → Type 0
IsThere ps p = IsDesigned ps p × ArrayThere p (slice_get ps p.number)

-- a place of a statement of a design
pub record InStatement (d : DesignTerm) (n : Space) : Type 0 where
  pub props : n.props ≡ []
  pub later : n.later ≡ []
  pub loops : n.loops ≡ []
  pub classes : (c : ℕ) → Each (λ (p : PropName). IsThere (flat_class_of d.classes c).props p.property) (class_props n.classes c)
  pub numbers : (v : ℕ) (kind : Option Vector) → VarIs n.vars v (stand.OfNumber kind) → KindAt kind (slice_get d.vars v)
  pub objects : (o c : ℕ) → VarIs n.vars o (stand.OfObject c) → variable_class (slice_get d.vars o) ≡ Some c

abbrev pub AcceptedReads : Type 0
AcceptedReads =
    (d : DesignTerm) (n : Space) (e : ExprTree) → InStatement d n → NamesFit n → LiteralsFit e
    → (value first_one n e).faults ≡ None → MatchOption (value first_one n e).tree ⊤ (λ t. Reads d t)

-- the statements of a script stand in its design
abbrev pub StatementPlacesStand : Type 0
StatementPlacesStand =
    (text : ℕ → List ℕ) (s : ScriptTree) → IsLevelled s → faults_of text s ≡ []
    → MatchOption (design_in text s) ⊤ (λ d. InStatement d (names_of text s) × NamesFit (names_of text s))

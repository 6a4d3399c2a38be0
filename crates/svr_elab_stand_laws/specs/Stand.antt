-- What is accepted in a constraint stands in the constraints of a design.
use Rattle.std.specs.Prelude.{◌≡◌, ◌≤◌, ◌+◌, ℕ, true, false, List, [], ◌∷◌, length, Option, Some, None, MatchOption, ⊤, slice_get}
use Rattle.svr_limits.specs.declared.limit.TheConstants.{LOOP_LIMIT}
use Rattle.svr_typed.specs.declared.Prop.{Prop}
use Rattle.svr_typed.specs.declared.TVar.{TVar}
use Rattle.svr_tree.specs.ExprTree.{ExprTree}
use Rattle.svr_tree.specs.ExprGrammar.{expr_height}
use Rattle.svr_design.specs.Types as design
use Rattle.svr_design.specs.Types.{VariableIs}
use Rattle.svr_design.specs.Mentions.{is_cyclic}
use Rattle.svr_design.specs.Constraints.{Stands}
use Rattle.svr_elab_fault.specs.Refusals.{first_one}
use Rattle.svr_elab_names.specs.declared.Vector.{Vector}
use Rattle.svr_elab_names.specs.declared.Property.{Property}
use Rattle.svr_elab_names.specs.declared.VarStand.{VarStand}
use Rattle.svr_elab_names.specs.declared.VarStand.TheVariants as stand
use Rattle.svr_elab_names.specs.Names.{Space, PropName, VarName, Loop, is_statement, is_in_line, is_array}
use Rattle.svr_elab_part.specs.Fits.{Each, NamesFit, LiteralsFit}
use Rattle.svr_elab_part.specs.Shapes.{is_randc, inner_of}
use Rattle.svr_elab_part.specs.Elab.{value}

-- a property of a design is what is known of one, whose type is known
pub record IsProperty (p : Property) (k : Vector) (q : Prop) : Type 0 where
  pub width : q.kind.width ≡ k.kind.width
  pub signed : q.kind.signed ≡ k.kind.signed
  pub low : q.low ≡ k.low
  pub array : design.is_array q.array ≡ is_array p.dims
  pub inner : inner_of p.dims ≡ Some q.inner
  pub random : q.can ≡ p.random
  pub cyclic : is_cyclic q.rand ≡ is_randc p.rand

abbrev pub There : Property → Option Vector → Option Prop → Type 0
There p None q = ⊥
There p (Some k) None = ⊥
There p (Some k) (Some q) = IsProperty p k q

-- at its number
abbrev pub IsDesigned : List Prop → Property → Type 0
IsDesigned ps p = There p p.kind (slice_get ps p.number)

abbrev pub ItemDesigned : List Prop → Option Property → Type 0
ItemDesigned ps None = ⊤
ItemDesigned ps (Some p) = IsDesigned ps p × (is_array p.dims ≡ true)

abbrev pub NumberIs : Option Vector → Option TVar → Type 0
NumberIs None v = ⊤
NumberIs (Some k) v = VariableIs v k.kind.width k.kind.signed

abbrev pub VariableDesigned : List TVar → ℕ → VarStand → Type 0
VariableDesigned vs v (stand.OfNumber kind) = NumberIs kind (slice_get vs v)
VariableDesigned vs v (stand.OfObject c) = ⊤

abbrev pub VariablesDesigned : List TVar → ℕ → List VarName → Type 0
VariablesDesigned vs v [] = ⊤
VariablesDesigned vs v (x ∷ xs) = VariableDesigned vs v x.stands × VariablesDesigned vs (v + 1) xs

-- a place in a constraint of a design with these properties, inside of so many loops; script variables can be named in a set behind a call alone
pub record InDesign (ps : List Prop) (vs : List TVar) (depth : ℕ) (n : Space) : Type 0 where
  pub region : is_statement n.region ≡ false
  pub props : Each (λ (p : PropName). IsDesigned ps p.property) n.props
  pub later : n.later ≡ []
  pub loops : Each (λ (l : Loop). ItemDesigned ps l.item) n.loops
  pub around : length n.loops ≡ depth
  pub vars : is_in_line n.region ≡ true → VariablesDesigned vs 0 n.vars

abbrev pub AcceptedStands : Type 0
AcceptedStands =
    (ps : List Prop) (vs : List TVar) (depth : ℕ) (n : Space) (e : ExprTree) → InDesign ps vs depth n → NamesFit n → LiteralsFit e → depth + expr_height e ≤ LOOP_LIMIT
    → (value first_one n e).faults ≡ None → MatchOption (value first_one n e).tree ⊤ (λ t. Stands ps vs depth t)

-- What an expression of a constraint is known to read is what its typed tree mentions.
use Rattle.std.specs.Prelude.{◌≡◌, false, List, [], Option, Some, None, MatchOption, ⊤}
use Rattle.svr_typed.specs.declared.Prop.{Prop}
use Rattle.svr_typed.specs.ExprTerm.{ExprTerm}
use Rattle.svr_tree.specs.ExprTree.{ExprTree}
use Rattle.svr_design.specs.Mentions as design
use Rattle.svr_design.specs.Mentions.{can_be_random, is_cyclic_one, is_random, reads_cyclic}
use Rattle.svr_elab_fault.specs.Refusals.{first_one}
use Rattle.svr_elab_names.specs.declared.Property.{Property}
use Rattle.svr_elab_names.specs.Names.{Space, PropName, Loop, is_statement}
use Rattle.svr_elab_part.specs.declared.part.Reads.{Reads}
use Rattle.svr_elab_part.specs.Fits.{Each}
use Rattle.svr_elab_part.specs.Shapes.{is_randc, is_open}
use Rattle.svr_elab_part.specs.Elab.{value}

-- a property stands at its number among these, where it can be random just as it is known, and is cyclic just as it is declared
abbrev pub IsDeclared : List Prop → Property → Type 0
IsDeclared ps p = (can_be_random ps p.number ≡ p.random) × (is_cyclic_one ps p.number ≡ is_randc p.rand)

abbrev pub ItemDeclared : List Prop → Option Property → Type 0
ItemDeclared ps None = ⊤
ItemDeclared ps (Some p) = IsDeclared ps p

-- a place in a constraint: each property that can be named is one of these
pub record InConstraint (ps : List Prop) (n : Space) : Type 0 where
  pub region : is_statement n.region ≡ false
  pub props : Each (λ (p : PropName). IsDeclared ps p.property) n.props
  pub later : n.later ≡ []
  pub loops : Each (λ (l : Loop). ItemDeclared ps l.item) n.loops

-- what is known to be read, and what a tree mentions
pub record Mentions (ps : List Prop) (t : ExprTerm) (r : Reads) : Type 0 where
  pub random : is_random ps t ≡ r.random
  pub opened : design.is_open ps t ≡ is_open r
  pub cyclic : reads_cyclic ps t ≡ r.cyclic

abbrev pub AcceptedMentions : Type 0
AcceptedMentions =
    (ps : List Prop) (n : Space) (e : ExprTree) → InConstraint ps n → (value first_one n e).faults ≡ None
    → MatchOption (value first_one n e).tree ⊤ (λ t. Mentions ps t (value first_one n e).reads)

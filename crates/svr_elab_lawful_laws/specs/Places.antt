-- Where the blocks and the in-line sets of a script stand, that which can be named stands in its design.
use Rattle.std.specs.Prelude.{◌≡◌, ℕ, true, false, List, [], Option, Some, None, MatchOption, ⊤, slice_get}
use Rattle.svr_typed.specs.declared.Prop.{Prop}
use Rattle.svr_typed.specs.StmtTerm.{DesignTerm}
use Rattle.svr_tree.specs.ScriptTree.{ScriptTree}
use Rattle.svr_tree.specs.ScriptGrammar.{IsLevelled}
use Rattle.svr_flat.specs.Flat.{flat_class_of}
use Rattle.svr_design.specs.Types.{is_fixed}
use Rattle.svr_elab_fault.specs.Refusals.{first_one}
use Rattle.svr_elab_names.specs.declared.Property.{Property}
use Rattle.svr_elab_names.specs.declared.Region.{Region}
use Rattle.svr_elab_names.specs.Names.{Space, PropName, is_statement}
use Rattle.svr_elab_part.specs.Fits.{Each, NamesFit}
use Rattle.svr_elab_item.specs.Items.{has_rows}
use Rattle.svr_elab_block.specs.Blocks.{in_class}
use Rattle.svr_elab_unit.specs.Vars.{stmt_space}
use Rattle.svr_elab.specs.Script.{faults_of, design_in, heads, unit_vars, with_calls}
use Rattle.svr_elab_expr_laws.specs.Known.{NamesKnown}
use Rattle.svr_elab_stand_laws.specs.Stand.{InDesign}

-- every name of a script
abbrev pub names_of : (ℕ → List ℕ) → ScriptTree → Space
names_of text s = with_calls (stmt_space (heads first_one text s).names (unit_vars first_one (heads first_one text s).names s.unit).vars) s.unit

-- as a property is declared, its place in a design is random, and has two dimensions
pub record IsSame (p : Property) (q : Prop) : Type 0 where
  pub rand : q.rand ≡ p.rand
  pub fixed : has_rows p.dims ≡ true → is_fixed q.array ≡ true

abbrev pub SameThere : Property → Option Prop → Type 0
SameThere p None = ⊥
SameThere p (Some q) = IsSame p q

-- a place of a block or of a set behind a call, for objects of class k
pub record IsPlace (d : DesignTerm) (k : ℕ) (n : Space) : Type 0 where
  pub stands : InDesign (flat_class_of d.classes k).props d.vars 0 n
  pub fits : NamesFit n
  pub names : NamesKnown n
  pub same : Each (λ (p : PropName). SameThere p.property (slice_get (flat_class_of d.classes k).props p.property.number)) n.props
  pub loops : n.loops ≡ []

abbrev pub PlacesStand : Type 0
PlacesStand =
    (text : ℕ → List ℕ) (s : ScriptTree) → IsLevelled s → faults_of text s ≡ []
    → MatchOption (design_in text s) ⊤ (λ d. (r : Region) (k : ℕ) → is_statement r ≡ false → IsPlace d k (in_class (names_of text s) r k))

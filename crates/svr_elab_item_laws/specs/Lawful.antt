-- What is accepted among constraint items is lawful: it is typed, and stands in the constraints of a design (IEEE 1800-2017, 18.5).
use Rattle.std.specs.Prelude.{◌≡◌, ◌≤◌, ℕ, true, false, List, Option, Some, None, slice_get}
use Rattle.svr_limits.specs.declared.limit.TheConstants.{HEIGHT_LIMIT}
use Rattle.svr_typed.specs.declared.Prop.{Prop}
use Rattle.svr_typed.specs.declared.TVar.{TVar}
use Rattle.svr_typed.specs.ItemTerm.{ItemTerms, items_of}
use Rattle.svr_eval.specs.Holds.{ItemsAreTyped}
use Rattle.svr_tree.specs.ItemTree.{ItemTrees}
use Rattle.svr_tree.specs.ItemGrammar.{AreBlockItems, items_height}
use Rattle.svr_design.specs.Types.{is_fixed}
use Rattle.svr_design.specs.Constraints.{ItemsStand}
use Rattle.svr_elab_fault.specs.Refusals.{first_one}
use Rattle.svr_elab_names.specs.declared.Property.{Property}
use Rattle.svr_elab_names.specs.Names.{Space, PropName, Loop, is_statement}
use Rattle.svr_elab_part.specs.Fits.{Each, NamesFit}
use Rattle.svr_elab_expr_laws.specs.Known.{IsKnown, NamesKnown}
use Rattle.svr_elab_stand_laws.specs.Stand.{InDesign}
use Rattle.svr_elab_item.specs.declared.Around.{Around}
use Rattle.svr_elab_item.specs.Fits.{ItemsFit}
use Rattle.svr_elab_item.specs.Items.{items, no_items, outside, has_rows}

-- there is one, and this holds of it
abbrev pub ThereIs : {A : Type 0} → (A → Type 0) → Option A → Type 0
ThereIs P None = ⊥
ThereIs P (Some x) = P x

-- ---- where items stand

-- loops of `foreach` alone stand around
abbrev pub OnlyLoops : Space → Type 0
OnlyLoops n = Each (λ (l : Loop). l.item ≡ None) n.loops

-- a place in constraints: no declaration that can be named was refused
pub record IsNamed (n : Space) : Type 0 where
  pub region : is_statement n.region ≡ false
  pub names : NamesKnown n
  pub loops : OnlyLoops n

-- what `solve` and a `foreach` of two names ask of a property (18.5.8.1 and 18.5.10)
pub record IsSame (p : Property) (q : Prop) : Type 0 where
  pub rand : q.rand ≡ p.rand
  pub fixed : has_rows p.dims ≡ true → is_fixed q.array ≡ true

abbrev pub SameThere : Property → Option Prop → Type 0
SameThere p None = ⊥
SameThere p (Some q) = IsSame p q

-- a place in the constraints of a design with these properties, inside of so many loops: what can be named stands in the design at its number
pub record IsPlace (ps : List Prop) (vs : List TVar) (depth : ℕ) (n : Space) : Type 0 where
  pub stands : InDesign ps vs depth n
  pub fits : NamesFit n
  pub names : NamesKnown n
  pub same : Each (λ (p : PropName). SameThere p.property (slice_get ps p.property.number)) n.props
  pub loops : OnlyLoops n

-- ---- the laws

abbrev pub AcceptedItemsHaveTrees : Type 0
AcceptedItemsHaveTrees = (n : Space) (a : Around) (is : ItemTrees) → IsNamed n → (items first_one n a (no_items first_one) is).faults ≡ None → IsKnown (items first_one n a (no_items first_one) is).trees

-- typed, and standing directly in a block or in a set behind a call
abbrev pub AreLawful : List Prop → List TVar → ItemTerms → Type 0
AreLawful ps vs is = ItemsAreTyped is × ItemsStand ps vs 0 false false is

abbrev pub AcceptedItemsAreLawful : Type 0
AcceptedItemsAreLawful =
    (ps : List Prop) (vs : List TVar) (n : Space) (is : ItemTrees) → IsPlace ps vs 0 n → ItemsFit is → AreBlockItems is → items_height is ≤ HEIGHT_LIMIT
    → (items first_one n outside (no_items first_one) is).faults ≡ None
    → ThereIs (λ ts. AreLawful ps vs (items_of ts)) (items first_one n outside (no_items first_one) is).trees

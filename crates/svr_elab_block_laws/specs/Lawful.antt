-- What is accepted among constraint blocks and in-line sets is lawful (IEEE 1800-2017, 18.5 and 18.7).
use Rattle.std.specs.Prelude.{◌≡◌, ◌≤◌, ◌+◌, ℕ, List, [], ◌∷◌, length, None, ⊤}
use Rattle.svr_limits.specs.declared.limit.TheConstants.{HEIGHT_LIMIT}
use Rattle.svr_typed.specs.declared.Prop.{Prop}
use Rattle.svr_typed.specs.declared.TVar.{TVar}
use Rattle.svr_typed.specs.ItemTerm.{items_of}
use Rattle.svr_typed.specs.ClassTerm.{BlockTerm}
use Rattle.svr_tree.specs.ItemTree.{ItemTrees}
use Rattle.svr_tree.specs.ItemGrammar.{AreItems, items_height}
use Rattle.svr_tree.specs.DeclTree.{ClassTree}
use Rattle.svr_tree.specs.DeclGrammar.{IsClass, greatest, class_height}
use Rattle.svr_tree.specs.Tokens.{Each}
use Rattle.svr_design.specs.Lawful.{EachFrom, Every, BlockStands}
use Rattle.svr_elab_fault.specs.Refusals.{first_one}
use Rattle.svr_elab_names.specs.declared.Region.TheVariants as region
use Rattle.svr_elab_names.specs.Names.{Space}
use Rattle.svr_elab_expr_laws.specs.Known.{IsKnown}
use Rattle.svr_elab_item.specs.Fits.{ItemsFit}
use Rattle.svr_elab_item_laws.specs.Lawful.{ThereIs, IsNamed, IsPlace, AreLawful}
use Rattle.svr_elab_block.specs.Fits.{BodiesFit}
use Rattle.svr_elab_block.specs.Blocks.{in_class, bodies, no_bodies, in_line}

-- ---- the place of each class, from number k on

abbrev pub NamedFrom : Space → ℕ → List ClassTree → Type 0
NamedFrom n k [] = ⊤
NamedFrom n k (c ∷ cs) = IsNamed (in_class n region.Block k) × NamedFrom n (k + 1) cs

-- `props` are the properties of each class with those that it inherits
abbrev pub PlacesFrom : (ℕ → List Prop) → Space → ℕ → List ClassTree → Type 0
PlacesFrom props n k [] = ⊤
PlacesFrom props n k (c ∷ cs) = IsPlace (props k) [] 0 (in_class n region.Block k) × PlacesFrom props n (k + 1) cs

-- ---- the laws

-- what a script that was read gives of its classes: the grammar is met, literals fit, and nothing is higher than the limit
abbrev pub AreRead : List ClassTree → Type 0
AreRead cs = Each IsClass cs × BodiesFit 0 cs × (greatest class_height cs ≤ HEIGHT_LIMIT)

abbrev pub AcceptedBlocksHaveTrees : Type 0
AcceptedBlocksHaveTrees =
    (n : Space) (cs : List ClassTree) → NamedFrom n 0 cs → (bodies first_one n (no_bodies first_one) 0 cs).faults ≡ None → IsKnown (bodies first_one n (no_bodies first_one) 0 cs).blocks

-- the blocks of each class stand in it
abbrev pub BlocksStand : (ℕ → List Prop) → List (List BlockTerm) → Type 0
BlocksStand props bs = EachFrom (λ k bs. Every (BlockStands (props k)) bs) 0 bs

abbrev pub AcceptedBlocksAreLawful : Type 0
AcceptedBlocksAreLawful =
    (props : ℕ → List Prop) (n : Space) (cs : List ClassTree) → PlacesFrom props n 0 cs → AreRead cs → (bodies first_one n (no_bodies first_one) 0 cs).faults ≡ None
    → ThereIs (λ bs. BlocksStand props bs × (length bs ≡ length cs)) (bodies first_one n (no_bodies first_one) 0 cs).blocks

abbrev pub AcceptedInLineIsLawful : Type 0
AcceptedInLineIsLawful =
    (ps : List Prop) (vs : List TVar) (n : Space) (k : ℕ) (is : ItemTrees) → IsPlace ps vs 0 (in_class n region.InLine k) → ItemsFit is → AreItems is → items_height is ≤ HEIGHT_LIMIT
    → (in_line first_one n k is).faults ≡ None → ThereIs (λ ts. AreLawful ps vs (items_of ts)) (in_line first_one n k is).trees

-- A script in which nothing is refused has a design.
use Rattle.std.specs.Prelude.{◌≡◌, ℕ, false, List, [], None}
use Rattle.svr_tree.specs.ItemTree.{ItemTrees}
use Rattle.svr_tree.specs.ScriptTree.{ScriptTree}
use Rattle.svr_tree.specs.ScriptGrammar.{IsLevelled}
use Rattle.svr_elab_fault.specs.Refusals.{first_one}
use Rattle.svr_elab_names.specs.Names.{Space, is_statement}
use Rattle.svr_elab_item.specs.Items.{items, no_items, outside}
use Rattle.svr_elab.specs.Script.{faults_of, design_in}
use Rattle.svr_elab_expr_laws.specs.Known.{IsKnown, NamesKnown}

-- items in which nothing is refused are there, where no declaration that can be named was refused
abbrev pub ItemsAreThere : Type 0
ItemsAreThere =
    (n : Space) (is : ItemTrees) → NamesKnown n → is_statement n.region ≡ false → n.loops ≡ []
    → (items first_one n outside (no_items first_one) is).faults ≡ None → IsKnown (items first_one n outside (no_items first_one) is).trees

-- the premise is what is proved of constraint items elsewhere
abbrev pub AcceptedHasDesign : Type 0
AcceptedHasDesign = ItemsAreThere → (text : ℕ → List ℕ) (s : ScriptTree) → IsLevelled s → faults_of text s ≡ [] → IsKnown (design_in text s)

-- What the walk over items that keeps the first refusal has to do with the one that gathers all of them.
use Rattle.std.specs.Prelude.{◌≡◌, List, Option}
use Rattle.svr_tree.specs.ItemTree.{ItemTrees}
use Rattle.svr_elab_fault.specs.declared.Fault.{Fault}
use Rattle.svr_elab_fault.specs.Refusals.{all, first_one, least, FirstOf}
use Rattle.svr_elab_names.specs.Names.{Space}
use Rattle.svr_elab_item.specs.declared.Around.{Around}
use Rattle.svr_elab_item.specs.Items.{ItemElab, ItemsElab, ElseElab, DistElab, UniqueElab, SolveElab, items, no_items}

-- the same, with the first of all refusals in their place
abbrev pub shown_item : ItemElab (List Fault) → ItemElab (Option Fault)
shown_item x = record { tree = x.tree; faults = least x.faults }

abbrev pub shown_items : ItemsElab (List Fault) → ItemsElab (Option Fault)
shown_items x = record { trees = x.trees; faults = least x.faults }

abbrev pub shown_else : ElseElab (List Fault) → ElseElab (Option Fault)
shown_else x = record { tree = x.tree; faults = least x.faults }

abbrev pub shown_dist : DistElab (List Fault) → DistElab (Option Fault)
shown_dist x = record { tree = x.tree; faults = least x.faults; cyclic = x.cyclic }

abbrev pub shown_unique : UniqueElab (List Fault) → UniqueElab (Option Fault)
shown_unique x = record { trees = x.trees; first = x.first; faults = least x.faults }

abbrev pub shown_solve : SolveElab (List Fault) → SolveElab (Option Fault)
shown_solve x = record { trees = x.trees; faults = least x.faults }

-- the walk with the first refusal is the walk with all of them, seen so
abbrev pub KeepsTheFirst : Type 0
KeepsTheFirst = (n : Space) (a : Around) (is : ItemTrees) → shown_items (items all n a (no_items all) is) ≡ items first_one n a (no_items first_one) is

-- and the refusal that it keeps is the first of all of them by place, at one place by number; where it keeps none there is none
abbrev pub TellsTheFirst : Type 0
TellsTheFirst = (n : Space) (a : Around) (is : ItemTrees) → FirstOf (items all n a (no_items all) is).faults (items first_one n a (no_items first_one) is).faults

-- What the walk that keeps the first refusal has to do with the one that gathers all of them.
use Rattle.std.specs.Prelude.{◌≡◌, List, Option}
use Rattle.svr_tree.specs.ExprTree.{ExprTree, ExprTrees, RangeTree, RangeTrees, BoundTree}
use Rattle.svr_elab_fault.specs.declared.Fault.{Fault}
use Rattle.svr_elab_fault.specs.Refusals.{all, first_one, least}
use Rattle.svr_elab_names.specs.Names.{Space}
use Rattle.svr_elab_part.specs.Elab.{Elab, Elabs, RangeElab, RangesElab, BoundElab, elab}

-- the same, with the first of all refusals in their place
abbrev pub shown : Elab (List Fault) → Elab (Option Fault)
shown x = record { at = x.at; shape = x.shape; tree = x.tree; faults = least x.faults; reads = x.reads; form = x.form }

abbrev pub shown_parts : Elabs (List Fault) → Elabs (Option Fault)
shown_parts x = record { trees = x.trees; total = x.total; faults = least x.faults; reads = x.reads }

abbrev pub shown_range : RangeElab (List Fault) → RangeElab (Option Fault)
shown_range x = record { tree = x.tree; faults = least x.faults; reads = x.reads }

abbrev pub shown_ranges : RangesElab (List Fault) → RangesElab (Option Fault)
shown_ranges x = record { trees = x.trees; faults = least x.faults; reads = x.reads }

abbrev pub shown_bound : BoundElab (List Fault) → BoundElab (Option Fault)
shown_bound x = record { tree = x.tree; faults = least x.faults; reads = x.reads }

-- the walk with the first refusal is the walk with all of them, seen so
abbrev pub KeepsTheFirst : Type 0
KeepsTheFirst = (n : Space) (e : ExprTree) → shown (elab all n e) ≡ elab first_one n e

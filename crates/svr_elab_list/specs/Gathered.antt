-- What the walk over statements that keeps the first refusal has to do with the one that gathers all of them.
use Rattle.std.specs.Prelude.{◌≡◌, List, Option}
use Rattle.svr_tree.specs.StmtTree.{StmtTree}
use Rattle.svr_elab_fault.specs.declared.Fault.{Fault}
use Rattle.svr_elab_fault.specs.Refusals.{all, first_one, least, FirstOf}
use Rattle.svr_elab_names.specs.Names.{Space}
use Rattle.svr_elab_type.specs.Types.{Constant}
use Rattle.svr_elab_stmt.specs.Stmts.{StmtElab, StmtsElab, ValuesElab, stmt}

-- the same, with the first of all refusals in their place
abbrev pub shown_stmt : StmtElab (List Fault) → StmtElab (Option Fault)
shown_stmt x = record { tree = x.tree; faults = least x.faults; makes = x.makes; count = x.count }

abbrev pub shown_stmts : StmtsElab (List Fault) → StmtsElab (Option Fault)
shown_stmts x = record { trees = x.trees; faults = least x.faults; made = x.made; count = x.count }

abbrev pub shown_values : ValuesElab (List Fault) → ValuesElab (Option Fault)
shown_values x = record { trees = x.trees; faults = least x.faults; many = x.many }

abbrev pub shown_constant : Constant (List Fault) → Constant (Option Fault)
shown_constant x = record { at = x.at; number = x.number; faults = least x.faults }

-- the walk with the first refusal is the walk with all of them, seen so
abbrev pub KeepsTheFirst : Type 0
KeepsTheFirst = (n : Space) (s : StmtTree) → shown_stmt (stmt all n s) ≡ stmt first_one n s

-- and the refusal that it keeps is the first of all of them by place, at one place by number; where it keeps none there is none
abbrev pub TellsTheFirst : Type 0
TellsTheFirst = (n : Space) (s : StmtTree) → FirstOf (stmt all n s).faults (stmt first_one n s).faults

-- What the passes over variables and statements that keep the first refusal have to do with those that gather all of them.
use Rattle.std.specs.Prelude.{◌≡◌, List, Option}
use Rattle.svr_tree.specs.DeclTree.{VarTree}
use Rattle.svr_tree.specs.ScriptTree.{UnitTree}
use Rattle.svr_elab_fault.specs.declared.Fault.{Fault}
use Rattle.svr_elab_fault.specs.Refusals.{all, first_one, least}
use Rattle.svr_elab_names.specs.declared.VarStand.{VarStand}
use Rattle.svr_elab_names.specs.Names.{Space}
use Rattle.svr_elab_type.specs.Types.{TypeElab}
use Rattle.svr_elab_decl.specs.Properties.{UsedElab}
use Rattle.svr_elab_list.specs.Gathered.{shown_stmts}
use Rattle.svr_elab_unit.specs.Vars.{VarsElab, ValuedElab, no_vars, var_decls}
use Rattle.svr_elab_unit.specs.Run.{run}

-- the same, with the first of all refusals in their place
abbrev pub shown_type : TypeElab (List Fault) → TypeElab (Option Fault)
shown_type x = record { kind = x.kind; faults = least x.faults }

abbrev pub shown_used : UsedElab (List Fault) → UsedElab (Option Fault)
shown_used x = record { used = x.used; faults = least x.faults }

abbrev pub shown_vars : VarsElab (List Fault) → VarsElab (Option Fault)
shown_vars x = record { vars = x.vars; stands = x.stands; objects = x.objects; others = x.others; faults = least x.faults }

abbrev pub shown_valued : ValuedElab (List Fault) → ValuedElab (Option Fault)
shown_valued x = record { vars = x.vars; stmts = shown_stmts x.stmts }

-- each pass with the first refusal is the pass with all of them, seen so
abbrev pub KeepsTheFirstOfVars : Type 0
KeepsTheFirstOfVars = (n : Space) (vs : List VarTree) → shown_vars (var_decls all n (no_vars all) vs) ≡ var_decls first_one n (no_vars first_one) vs

abbrev pub KeepsTheFirstOfStmts : Type 0
KeepsTheFirstOfStmts = (n : Space) (ks : List VarStand) (u : UnitTree) → shown_stmts (run all n ks u) ≡ run first_one n ks u

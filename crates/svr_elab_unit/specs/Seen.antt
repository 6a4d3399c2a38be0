-- What the code keeps of variables, as what is known of them with the first refusal only.
use Rattle.std.specs.Prelude.{ℕ, List, Option, map}
use Rattle.svr_elab_fault.specs.declared.Fault.{Fault}
use Rattle.svr_elab_names.specs.Tables.{var_of}
use Rattle.svr_elab_stmt.specs.Seen.{stmts_part}
use Rattle.svr_elab_unit.specs.Vars.{VarsElab, ValuedElab}
use Rattle.svr_elab_unit.specs.declared.vars.VarsPart.{VarsPart}
use Rattle.svr_elab_unit.specs.declared.values.ValuedPart.{ValuedPart}

abbrev pub vars_part : VarsPart → VarsElab (Option Fault)
vars_part p = record { vars = map var_of p.vars.entries; stands = p.stands; objects = p.objects; others = p.others; faults = p.fault }

-- beside the object variables that have an object behind the values
abbrev pub valued_part : List ℕ → ValuedPart → ValuedElab (Option Fault)
valued_part made p = record { vars = map var_of p.vars.entries; stmts = stmts_part made p.stmts }

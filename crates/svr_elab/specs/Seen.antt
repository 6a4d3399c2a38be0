-- What the code keeps of a script, as what is known of it with the first refusal only.
use Rattle.std.specs.Prelude.{Option, option_map}
use Rattle.svr_typed.specs.StmtTerm.{design_term}
use Rattle.svr_elab_fault.specs.declared.Fault.{Fault}
use Rattle.svr_elab.specs.Script.{ScriptElab}
use Rattle.svr_elab.specs.declared.whole.ScriptPart.{ScriptPart}

abbrev pub script_part : ScriptPart → ScriptElab (Option Fault)
script_part p = record { design = option_map design_term p.design; faults = p.fault }

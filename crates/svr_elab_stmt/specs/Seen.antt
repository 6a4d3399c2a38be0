-- What the code keeps of statements, as what is known of them with the first refusal only.
use Rattle.std.specs.Prelude.{ℕ, List, Option, option_map, map}
use Rattle.svr_typed.specs.ExprTerm.{expr_term}
use Rattle.svr_typed.specs.StmtTerm.{stmt_term}
use Rattle.svr_elab_fault.specs.declared.Fault.{Fault}
use Rattle.svr_elab_stmt.specs.Stmts.{StmtElab, StmtsElab, ValuesElab}
use Rattle.svr_elab_stmt.specs.declared.part.StmtPart.{StmtPart}
use Rattle.svr_elab_stmt.specs.declared.part.StmtsPart.{StmtsPart}
use Rattle.svr_elab_stmt.specs.declared.part.ValuesPart.{ValuesPart}

abbrev pub stmt_part : StmtPart → StmtElab (Option Fault)
stmt_part s = record { tree = option_map stmt_term s.tree; faults = s.fault; makes = s.makes; count = s.count }

-- beside the object variables that have an object behind them
abbrev pub stmts_part : List ℕ → StmtsPart → StmtsElab (Option Fault)
stmts_part made s = record { trees = option_map (map stmt_term) s.trees; faults = s.fault; made = made; count = s.count }

abbrev pub values_part : ValuesPart → ValuesElab (Option Fault)
values_part v = record { trees = option_map (map expr_term) v.trees; faults = v.fault; many = v.many }

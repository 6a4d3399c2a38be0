-- What elaboration accepts can be run.
use Rattle.std.proofs.Common.{ℕ, List}
use Rattle.svr_tree.specs.ScriptTree.{ScriptTree}
use Rattle.svr_typed.specs.StmtTerm.{DesignTerm}
use Rattle.svr_design.specs.Lawful.{IsLawful}
use Rattle.svr_elaborate.specs.Elaborated.{IsDesignOf}
use Rattle.svr_phase.specs.declared.options.Options.{Options}
use Rattle.svr_run.specs.CanRun.{AreAllowed, CanRun}
use Rattle.svr_run_laws.proofs.Reached.{lawful_can_run}

pub is_lawful : (name : ℕ → List ℕ) (s : ScriptTree) (d : DesignTerm) → IsDesignOf name s d → IsLawful d
is_lawful name s d h = h.lawful

pub can_run : (d : DesignTerm) (opts : Options) → AreAllowed opts → IsLawful d → CanRun d opts
can_run d opts allowed lawful = lawful_can_run d opts allowed.2 lawful

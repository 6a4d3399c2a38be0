-- What elaboration promises of a script that it accepts.
use Rattle.std.specs.Prelude.{◌≡◌, ℕ, List, [], Some}
use Rattle.svr_typed.specs.StmtTerm.{DesignTerm}
use Rattle.svr_tree.specs.ScriptTree.{ScriptTree}
use Rattle.svr_elab.specs.Script.{faults_of, design_in}
use Rattle.svr_design.specs.Lawful.{IsLawful}

-- nothing refuses the script, this is its design, and it is lawful
pub record IsDesignOf (text : ℕ → List ℕ) (s : ScriptTree) (d : DesignTerm) : Type 0 where
  pub clear : faults_of text s ≡ []
  pub design : design_in text s ≡ Some d
  pub lawful : IsLawful d

-- What elaboration promises of a whole script.
use Rattle.std.specs.Prelude.{◌≡◌, ℕ, List, [], Option, Some, ⊤}
use Rattle.svr_typed.specs.StmtTerm.{DesignTerm}
use Rattle.svr_tree.specs.ScriptTree.{ScriptTree}
use Rattle.svr_refusal.specs.Numbers.{number_of}
use Rattle.svr_elab_fault.specs.declared.Fault.{Fault}
use Rattle.svr_elab_fault.specs.declared.ElabFault.{ElabFault}
use Rattle.svr_elab_fault.specs.declared.ElabFault.TheVariants.{Refused, NoMemory}
use Rattle.svr_elab_fault.specs.Refusals.{IsFirst}
use Rattle.svr_elab.specs.Script.{faults_of, design_in}

-- nothing refuses the script, and this is its design
pub record IsAccepted (text : ℕ → List ℕ) (s : ScriptTree) (d : Option DesignTerm) : Type 0 where
  pub clear : faults_of text s ≡ []
  pub design : design_in text s ≡ d

-- a refusal of these numbers is the first of the script: by its place, at one place by its number
pub record IsRefused (text : ℕ → List ℕ) (s : ScriptTree) (number token : ℕ) : Type 0 where
  pub fault : Fault
  pub is_number : number_of fault.refusal ≡ number
  pub is_token : fault.token ≡ token
  pub first : IsFirst (faults_of text s) fault

abbrev pub Explains : (ℕ → List ℕ) → ScriptTree → ElabFault → Type 0
Explains text s NoMemory = ⊤
Explains text s (Refused number token) = IsRefused text s number token

-- this refusal is told
pub record IsTold (kept : Option Fault) (number token : ℕ) : Type 0 where
  pub fault : Fault
  pub is : kept ≡ Some fault
  pub is_number : number_of fault.refusal ≡ number
  pub is_token : fault.token ≡ token

abbrev pub Tells : Option Fault → ElabFault → Type 0
Tells kept NoMemory = ⊥
Tells kept (Refused number token) = IsTold kept number token

-- How the code answers what a definition gives.
use Rattle.std.specs.Prelude.{◌≡◌, ◌≢◌, ℕ, Bool, Option, List, Result, Ok, Err}
use Rattle.svr_tree.specs.Tokens.{Tok}
use Rattle.svr_reader.specs.declared.fault.ReadFault.{ReadFault}
use Rattle.svr_reader.specs.declared.fault.ReadFault.TheVariants as fault
use Rattle.svr_reader.specs.declared.fixed.Fixed.{Fixed}
use Rattle.svr_reader.specs.Outcomes.{Stop, Unexpected, TooDeep, Stuck, Outcome, Parser}
use Rattle.svr_reader.specs.Program.{Program, run}
use Rattle.svr_reader.specs.Calls.{cap}

-- why the code stops, as a definition says it. Want of memory has no place there
abbrev pub stop_of : ReadFault → Stop
stop_of (fault.Unexpected n) = Unexpected n
stop_of (fault.TooDeep n) = TooDeep n
stop_of fault.NoMemory = Stuck

-- the answer is the outcome, seen as data, and the tokens left are its rest; a fault is the outcome's. No outcome that says something is want of memory
abbrev pub Answers : {A B : Type 0} → (A → B) → Outcome B → Result A ReadFault → List Tok → Type 0
Answers view outcome (Ok a) new = outcome ≡ Ok (view a, new)
Answers view outcome (Err e) new = outcome ≡ Err (stop_of e)

-- the same, want of memory aside
abbrev pub Gives : {A B : Type 0} → (A → B) → Outcome B → Result A ReadFault → List Tok → Type 0
Gives view outcome (Ok a) new = outcome ≡ Ok (view a, new)
Gives view outcome (Err e) new = e ≢ fault.NoMemory → outcome ≡ Err (stop_of e)

-- what a program that calls for nothing comes to
abbrev pub plainly : {A : Type 0} → Program (Unit {0}) (λ _. Unit {0}) A → Parser A
plainly p = run cap 0 (λ _ i. Err Stuck) p

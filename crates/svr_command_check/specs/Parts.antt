-- What the functions of a check promise one another.
use Rattle.std.specs.Prelude.{◌≡◌, ◌⊎◌, List, ℕ}
use Rattle.std.specs.declared.option.Option.{Option}
use Rattle.std.specs.Io.KnownBytes.{Appends, Keeps}
use Rattle.svr_edge.specs.Causes.{Rose}
use Rattle.svr_edge.specs.Known.{AppendsFront}
use Rattle.svr_lrat_judge.specs.declared.verdict.LratVerdict.TheVariants as says
use Rattle.svr_check.specs.declared.check.Checked.{Checked}
use Rattle.svr_check.specs.declared.check.Checked.TheVariants as checked
use Rattle.svr_check.specs.Lines.{verdict_line}
use Rattle.svr_check.specs.Checked.{IsChecked}
use Rattle.svr_status.specs.Lines.{refused_as}
use Rattle.svr_status.specs.declared.status.Status.{Status}
use Rattle.svr_status.specs.declared.status.Status.TheVariants.{AllOne, SomeZero, Refused, WriteFault, NoMemory}

-- the line for what is said of a text, and the status with it
abbrev pub checked_line : Checked → List ℕ
checked_line (checked.Judged verdict) = verdict_line verdict
checked_line (checked.Refused number place) = refused_as place number

abbrev pub checked_status : Checked → Status
checked_status (checked.Judged says.Accepted) = AllOne
checked_status (checked.Judged (says.Rejected id why)) = SomeZero
checked_status (checked.Refused number place) = Refused

-- what is said of a text was told with its status; or a front of it; or memory was wanting
abbrev pub TellsChecked : Checked → Status → Option (List ℕ) → ℕ → Option (List ℕ) → ℕ → Type 0
TellsChecked said status old was new now =
    ((status ≡ checked_status said) × Appends old new (checked_line said))
    ⊎ (((status ≡ WriteFault) × AppendsFront old new (checked_line said) × Rose was now)
    ⊎ ((status ≡ NoMemory) × Keeps old new))

-- a text was checked, and what is said of it told; or memory was wanting
abbrev pub Checks : List ℕ → Status → Option (List ℕ) → ℕ → Option (List ℕ) → ℕ → Type 0
Checks text status old was new now =
    ((said : Checked) × IsChecked text said × TellsChecked said status old was new now)
    ⊎ ((status ≡ NoMemory) × Keeps old new)

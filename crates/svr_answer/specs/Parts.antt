-- What the functions of a run and of a load promise one another.
use Rattle.std.specs.Prelude.{◌≡◌, ◌<◌, ◌≤◌, ◌⊎◌, List, ℕ}
use Rattle.std.specs.declared.option.Option.{Option}
use Rattle.std.specs.Io.KnownBytes.{Appends, Keeps}
use Rattle.svr_edge.specs.Causes.{Rose}
use Rattle.svr_edge.specs.Known.{AppendsFront}
use Rattle.svr_script.specs.Run as script
use Rattle.svr_phase.specs.declared.options.Options.{Options}
use Rattle.svr_run.specs.declared.progress.Counts.{Counts}
use Rattle.svr_run.specs.Telling.{Sinks, SinkFailed}
use Rattle.svr_words.specs.declared.request.Run.{Run}
use Rattle.svr_status.specs.Writing.{Writing}
use Rattle.svr_status.specs.declared.status.Status.{Status}
use Rattle.svr_status.specs.declared.status.Status.TheVariants.{AllOne, SomeZero, Usage, SomeGivenUp, Refused, Limited, ReadFault, WriteFault, NoMemory}
use Rattle.svr_answer.specs.Lines.{load_line}
use Rattle.svr_answer.specs.Answers.{Answers, MayTell, LoadAnswers, LoadMayTell}

-- the status of a run that came to its end with so many answers
abbrev pub HasStatus : Counts → Status → Type 0
HasStatus n AllOne = (n.zeros ≡ 0) × (n.given_up ≡ 0)
HasStatus n SomeZero = (0 < n.zeros) × (n.given_up ≡ 0)
HasStatus n SomeGivenUp = 0 < n.given_up
HasStatus n Usage = ⊥
HasStatus n Refused = ⊥
HasStatus n Limited = ⊥
HasStatus n ReadFault = ⊥
HasStatus n WriteFault = ⊥
HasStatus n NoMemory = ⊥

-- a text that was read is answered with this status, and so much was written
pub record Answered (asked : Run) (text : List ℕ) (status : Status) (old new : Sinks) : Type 0 where
  pub writing : Writing (Answers asked text) (MayTell asked text) status old new
  pub was_read : status ≡ ReadFault → ⊥
  pub cause : status ≡ WriteFault → SinkFailed old new
  pub out_later : old.out_faults ≤ new.out_faults
  pub journal_later : old.journal_faults ≤ new.journal_faults

-- ---- loads

abbrev pub totals : Counts → script.Counts
totals n = record { ones = n.ones; zeros = n.zeros; given_up = n.given_up }

-- a load is answered with this status, and so much was written
pub record LoadAnswered (count : ℕ) (opts : Options) (status : Status) (old new : Sinks) : Type 0 where
  pub writing : Writing (LoadAnswers count opts) (LoadMayTell count opts) status old new
  pub nothing_read : status ≡ ReadFault → ⊥
  pub cause : status ≡ WriteFault → SinkFailed old new
  pub out_later : old.out_faults ≤ new.out_faults
  pub journal_later : old.journal_faults ≤ new.journal_faults

-- The line of a load was written, with the status of its answers; or a front of it; or memory was wanting.
abbrev pub Told : ℕ → Counts → Status → Option (List ℕ) → ℕ → Option (List ℕ) → ℕ → Type 0
Told count n status old was new now =
    ((HasStatus n status × Appends old new (load_line count (totals n)))
    ⊎ (((status ≡ WriteFault) × AppendsFront old new (load_line count (totals n)) × Rose was now)
    ⊎ ((status ≡ NoMemory) × Keeps old new))) × (was ≤ now)

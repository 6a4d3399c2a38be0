-- What the functions of the command promise one another.
use Rattle.std.specs.Prelude.{◌≡◌, ◌≤◌, ◌⊎◌, ℕ, List, length}
use Rattle.std.specs.declared.option.Option.{Option}
use Rattle.std.specs.Io.KnownBytes.{Appends, Keeps}
use Rattle.svr_edge.specs.Causes.{Rose}
use Rattle.svr_edge.specs.Known.{AppendsFront}
use Rattle.svr_limits.specs.declared.limit.TheConstants.{TEXT_LIMIT}
use Rattle.svr_token.specs.declared.token.Token.{Token}
use Rattle.svr_token.specs.Names.{name_at}
use Rattle.svr_typed.specs.StmtTerm.{DesignTerm}
use Rattle.svr_phase.specs.declared.options.Options.{Options}
use Rattle.svr_run.specs.declared.stop.Stop.{Stop}
use Rattle.svr_run.specs.declared.stop.Stop.TheVariants as stop
use Rattle.svr_run.specs.Telling.{Sinks, SinkFailed}
use Rattle.svr_refused.specs.Texts.{HasDesign}
use Rattle.svr_cover_text.specs.declared.text.GroupsText.{GroupsText}
use Rattle.svr_cover.specs.declared.group.Group.{Group}
use Rattle.svr_cover.specs.declared.cover.Cover.{Cover}
use Rattle.svr_cover.specs.Cover.{unsampled}
use Rattle.svr_coverage.specs.declared.counters.Counters.{Counters}
use Rattle.svr_coverage.specs.declared.fault.CoverageFault.{CoverageFault}
use Rattle.svr_coverage.specs.declared.fault.CoverageFault.TheVariants as fault
use Rattle.svr_coverage.specs.Script.{script_of}
use Rattle.svr_coverage.specs.Front.{BeginsWith}
use Rattle.svr_coverage.specs.Counters.{HasCounters}
use Rattle.svr_status.specs.Lines.{refused_as}
use Rattle.svr_status.specs.Writing.{Writing}
use Rattle.svr_status.specs.declared.status.Status.{Status}
use Rattle.svr_status.specs.declared.status.Status.TheVariants.{Usage, Refused, ReadFault, WriteFault, NoMemory}
use Rattle.svr_command_cover.specs.Answers.{CoverAnswers, CoverMayTell}

-- no sample was taken yet
abbrev pub IsFresh : Cover → Type 0
IsFresh cover = (groups : List Group) × (counters : ℕ) × (cover ≡ unsampled groups counters)

-- the text begins with groups, this is the design of the script behind them, and these are the counters of the groups over it
pub record IsPrepared (text : List ℕ) (design : DesignTerm) (counters : Counters) : Type 0 where
  pub small : length text ≤ TEXT_LIMIT
  pub tokens : List Token
  pub groups : GroupsText
  pub begins : BeginsWith text tokens groups
  pub read : HasDesign (script_of text tokens groups.used) design
  pub made : HasCounters design (name_at text tokens) groups.list counters

-- the status of a run that stopped
abbrev pub stopped_as : Stop → Status
stopped_as stop.NoMemory = NoMemory
stopped_as stop.WriteFault = WriteFault

-- a text that was read is answered with this status, and so much was written
pub record Answered (opts : Options) (text : List ℕ) (status : Status) (old new : Sinks) : Type 0 where
  pub writing : Writing (CoverAnswers opts text) (CoverMayTell opts text) status old new
  pub command : status ≡ Usage → ⊥
  pub was_read : status ≡ ReadFault → ⊥
  pub cause : status ≡ WriteFault → SinkFailed old new
  pub out_later : old.out_faults ≤ new.out_faults
  pub journal_later : old.journal_faults ≤ new.journal_faults

-- all of a text was written, with the status that goes with it; or a front of it; or nothing, for want of memory
abbrev pub Told : Status → List ℕ → Status → Option (List ℕ) → ℕ → Option (List ℕ) → ℕ → Type 0
Told wanted text status old was new now =
    (((status ≡ wanted) × Appends old new text)
    ⊎ (((status ≡ WriteFault) × AppendsFront old new text × Rose was now)
    ⊎ ((status ≡ NoMemory) × Keeps old new))) × (was ≤ now)

-- a refusal was told, or memory was wanting before
abbrev pub FaultTold : CoverageFault → Status → Option (List ℕ) → ℕ → Option (List ℕ) → ℕ → Type 0
FaultTold (fault.Refused number place) status old was new now = Told Refused (refused_as place number) status old was new now
FaultTold fault.NoMemory status old was new now = (status ≡ NoMemory) × Keeps old new × (was ≤ now)

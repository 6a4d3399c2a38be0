-- Which scripts, derivations, texts of `randsequence` and texts with cover groups are answered.
use Rattle.std.specs.Prelude.{◌≡◌, ◌≤◌, ◌⊎◌, ℕ, List, length}
use Rattle.svr_limits.specs.declared.limit.TheConstants.{TEXT_LIMIT}
use Rattle.svr_typed.specs.StmtTerm.{DesignTerm}
use Rattle.svr_phase.specs.declared.options.Options.{Options}
use Rattle.svr_script.specs.Ending as ending
use Rattle.svr_script.specs.Ending.{Ending, Output}
use Rattle.svr_run_budget_laws.specs.Runs.{CallsAskLittle}
use Rattle.svr_run.specs.Telling.{Sinks}
use Rattle.svr_lrat_file.specs.Views.{FileView}
use Rattle.svr_lrat_text.specs.declared.limits.TheConstants.{MOST_TEXT}
use Rattle.svr_lrat_text.specs.Faults.{IsFileOf}
use Rattle.svr_token.specs.declared.token.Token.{Token}
use Rattle.svr_seq.specs.SeqTerm.{SeqTerm}
use Rattle.svr_seq_lines.specs.Said.{HasSeq}
use Rattle.svr_words.specs.declared.request.Run.{Run}
use Rattle.svr_words.specs.Words.{IsCommand, IsCheck, IsSeq, IsCover}
use Rattle.svr_refused.specs.Texts.{HasDesign, IsRefused}
use Rattle.svr_answer.specs.Ends.{Ends}
use Rattle.svr_command_cover.specs.Answers.{Covers, RefusesCover}
use Rattle.svr_status.specs.declared.status.Status.{Status}
use Rattle.svr_status.specs.declared.status.Status.TheVariants.{AllOne, SomeZero, SomeGivenUp, Limited, ReadFault, WriteFault, NoMemory}
use Rattle.svr_program.specs.Outcome.{Writes}

-- ---- which answers a script has

-- The words ask for a run, nothing refuses the text, and no run of its script meets a limit.
pub record IsAnswerable (words : List (List ℕ)) (text : List ℕ) : Type 0 where
  pub run : Run
  pub asked : IsCommand words run
  pub small : length text ≤ TEXT_LIMIT
  pub accepted : (line : List ℕ) → IsRefused text line → ⊥
  pub unlimited : (output : Output) → Ends run text ending.Limited output → ⊥

-- each call was answered or given up, or memory was wanting
abbrev pub IsAnswered : Status → Type 0
IsAnswered status = (status ≡ AllOne) ⊎ ((status ≡ SomeZero) ⊎ ((status ≡ SomeGivenUp) ⊎ (status ≡ NoMemory)))

-- where no source or sink failed, such a script is answered
abbrev pub RunsAreComplete : Type 0
RunsAreComplete = (words : List (List ℕ)) (text : List ℕ) (status : Status) (old new : Sinks) → IsAnswerable words text → Writes words text status old new
    → (status ≡ ReadFault → ⊥) → (status ≡ WriteFault → ⊥) → IsAnswered status

-- ---- which scripts are answered whole

-- such a script, in which each question that a call comes to is small
pub record IsSmall (words : List (List ℕ)) (text : List ℕ) : Type 0 where
  pub answerable : IsAnswerable words text
  pub little : (design : DesignTerm) → HasDesign text design → CallsAskLittle design answerable.run.opts

-- each call was answered, or memory was wanting
abbrev pub IsAnsweredWhole : Status → Type 0
IsAnsweredWhole status = (status ≡ AllOne) ⊎ ((status ≡ SomeZero) ⊎ (status ≡ NoMemory))

-- where no source or sink failed, none of its questions is given up
abbrev pub SmallRunsAreAnswered : Type 0
SmallRunsAreAnswered = (words : List (List ℕ)) (text : List ℕ) (status : Status) (old new : Sinks) → IsSmall words text → Writes words text status old new
    → (status ≡ ReadFault → ⊥) → (status ≡ WriteFault → ⊥) → IsAnsweredWhole status

-- The words ask for a check, and the text is a file within the limits.
pub record IsCheckable (words : List (List ℕ)) (text : List ℕ) : Type 0 where
  pub asked : IsCheck words
  pub small : length text ≤ MOST_TEXT
  pub file : FileView
  pub written : IsFileOf text file

-- it was accepted or rejected, or memory was wanting
abbrev pub IsVerdict : Status → Type 0
IsVerdict status = (status ≡ AllOne) ⊎ ((status ≡ SomeZero) ⊎ (status ≡ NoMemory))

-- where no source or sink failed, such a text has its verdict
abbrev pub ChecksAreComplete : Type 0
ChecksAreComplete = (words : List (List ℕ)) (text : List ℕ) (status : Status) (old new : Sinks) → IsCheckable words text → Writes words text status old new
    → (status ≡ ReadFault → ⊥) → (status ≡ WriteFault → ⊥) → IsVerdict status

-- ---- which texts of `randsequence` have their lines

-- The words ask for lines, and the text is accepted.
pub record IsProducible (words : List (List ℕ)) (text : List ℕ) : Type 0 where
  pub seed : ℕ
  pub count : ℕ
  pub asked : IsSeq words seed count
  pub small : length text ≤ TEXT_LIMIT
  pub tokens : List Token
  pub seq : SeqTerm
  pub read : HasSeq text tokens seq

-- all lines were written, or those up to one that needs too many units, or memory was wanting
abbrev pub IsProduced : Status → Type 0
IsProduced status = (status ≡ AllOne) ⊎ ((status ≡ Limited) ⊎ (status ≡ NoMemory))

-- where no source or sink failed, such a text has its lines
abbrev pub LinesAreComplete : Type 0
LinesAreComplete = (words : List (List ℕ)) (text : List ℕ) (status : Status) (old new : Sinks) → IsProducible words text → Writes words text status old new
    → (status ≡ ReadFault → ⊥) → (status ≡ WriteFault → ⊥) → IsProduced status

-- ---- which texts have a report

-- The words ask for coverage, nothing refuses the text, and no run of its script meets a limit.
pub record IsCoverable (words : List (List ℕ)) (text : List ℕ) : Type 0 where
  pub opts : Options
  pub asked : IsCover words opts
  pub accepted : (output : Output) → RefusesCover text output → ⊥
  pub unlimited : (output : Output) → Covers opts text ending.Limited output → ⊥

-- where no source or sink failed, each call of such a text was answered or given up and its report is written, or memory was wanting
abbrev pub CoverageIsComplete : Type 0
CoverageIsComplete = (words : List (List ℕ)) (text : List ℕ) (status : Status) (old new : Sinks) → IsCoverable words text → Writes words text status old new
    → (status ≡ ReadFault → ⊥) → (status ≡ WriteFault → ⊥) → IsAnswered status

-- such a text, in whose script each question that a call comes to is small
pub record IsSmallCover (words : List (List ℕ)) (text : List ℕ) : Type 0 where
  pub coverable : IsCoverable words text
  pub little : (how : Ending) (output : Output) (covers : Covers coverable.opts text how output) → CallsAskLittle covers.run.design coverable.opts

-- where no source or sink failed, none of its questions is given up
abbrev pub SmallCoverageIsAnswered : Type 0
SmallCoverageIsAnswered = (words : List (List ℕ)) (text : List ℕ) (status : Status) (old new : Sinks) → IsSmallCover words text → Writes words text status old new
    → (status ≡ ReadFault → ⊥) → (status ≡ WriteFault → ⊥) → IsAnsweredWhole status
